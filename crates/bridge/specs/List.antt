-- What a step through a list and a string copy answer: an item with the cursor behind it and `given` 1; nothing where the list is done; the number of a refusal and nothing else.
use Rattle.std.specs.Prelude.{ℕ, List}
use Rattle.format.specs.View.{View, Next, item, done, broken}
use Rattle.format.specs.Copy.{Answer, took, denied}
use Rattle.plain.specs.Numbers.{flat_numbers}
use Rattle.protocol.specs.Kind.{channel_level_format, fixture_format, identifier_format, feed_name_format, laser_point_format}
use Rattle.bridge.specs.declared.list.U16Answer.{U16Answer}
use Rattle.bridge.specs.declared.list.U32Answer.{U32Answer}
use Rattle.bridge.specs.declared.list.ChannelLevelAnswer.{ChannelLevelAnswer}
use Rattle.bridge.specs.declared.list.IdentifierAnswer.{IdentifierAnswer}
use Rattle.bridge.specs.declared.list.FixtureAnswer.{FixtureAnswer}
use Rattle.bridge.specs.declared.list.FeedNameAnswer.{FeedNameAnswer}
use Rattle.bridge.specs.declared.list.LaserPointAnswer.{LaserPointAnswer}
use Rattle.bridge.specs.declared.list.CopyAnswer.{CopyAnswer}

-- by what is made of an item, and of a number where there is none
abbrev pub flat_next : {A F : Type 0} → (A → ℕ → ℕ → F) → (ℕ → F) → Next A → F
flat_next given none (item a at n) = given a at n
flat_next given none done = none 0
flat_next given none (broken k) = none k

abbrev pub no_u16 : ℕ → U16Answer
no_u16 k = record { number = k; given = 0; left = 0; value = 0; at = 0 }

abbrev pub flat_u16 : Next ℕ → U16Answer
flat_u16 = flat_next (λ x at n. record { number = 0; given = 1; left = n; value = x; at = at }) no_u16

abbrev pub no_u32 : ℕ → U32Answer
no_u32 k = record { number = k; given = 0; left = 0; value = 0; at = 0 }

abbrev pub flat_u32 : Next ℕ → U32Answer
flat_u32 = flat_next (λ x at n. record { number = 0; given = 1; left = n; value = x; at = at }) no_u32

abbrev pub no_channel_level : ℕ → ChannelLevelAnswer
no_channel_level k = record { number = k; given = 0; left = 0; value = record { universe_index = 0; channel = 0; channel_level = 0 }; at = 0 }

abbrev channel_level : View channel_level_format → ℕ → ℕ → ChannelLevelAnswer
channel_level x at n = record { number = 0; given = 1; left = n; value = record { universe_index = x.0; channel = x.1.0; channel_level = x.1.1 }; at = at }

abbrev pub flat_channel_level : Next (View channel_level_format) → ChannelLevelAnswer
flat_channel_level = flat_next channel_level no_channel_level

abbrev pub no_identifier : ℕ → IdentifierAnswer
no_identifier k = record { number = k; given = 0; left = 0; identifier_type = 0; at = 0; data_start = 0; data_len = 0 }

abbrev identifier : View identifier_format → ℕ → ℕ → IdentifierAnswer
identifier x at n = record { number = 0; given = 1; left = n; identifier_type = x.0; at = at; data_start = x.1.0; data_len = x.1.1 }

abbrev pub flat_identifier : Next (View identifier_format) → IdentifierAnswer
flat_identifier = flat_next identifier no_identifier

abbrev pub no_fixture : ℕ → FixtureAnswer
no_fixture k = record {
  number = k;
  given = 0;
  is_dimmer = 0;
  identifiers_left = 0;
  left = 0;
  channel_count = 0;
  fixture_identifier = 0;
  «data» = flat_numbers (0, 0, 0, 0, (0, (0, (0, (0, (0, 0))))));
  at = 0;
  manufacturer_name_start = 0;
  manufacturer_name_len = 0;
  fixture_name_start = 0;
  fixture_name_len = 0;
  mode_name_start = 0;
  mode_name_len = 0;
  identifiers_at = 0;
  unit_start = 0;
  unit_len = 0;
  circuit_start = 0;
  circuit_len = 0;
  note_start = 0;
  note_len = 0;
}

abbrev fixture : View fixture_format → ℕ → ℕ → FixtureAnswer
fixture (id, (maker, (name, (mode, (channels, (dimmer, (identifiers, (a, (b, (c, (unit, (d, (circuit, (note, floats)))))))))))))) at n = record {
  number = 0;
  given = 1;
  is_dimmer = dimmer;
  identifiers_left = identifiers.1;
  left = n;
  channel_count = channels;
  fixture_identifier = id;
  «data» = flat_numbers (a, b, c, d, floats);
  at = at;
  manufacturer_name_start = maker.0;
  manufacturer_name_len = maker.1;
  fixture_name_start = name.0;
  fixture_name_len = name.1;
  mode_name_start = mode.0;
  mode_name_len = mode.1;
  identifiers_at = identifiers.0;
  unit_start = unit.0;
  unit_len = unit.1;
  circuit_start = circuit.0;
  circuit_len = circuit.1;
  note_start = note.0;
  note_len = note.1;
}

abbrev pub flat_fixture : Next (View fixture_format) → FixtureAnswer
flat_fixture = flat_next fixture no_fixture

abbrev pub no_feed_name : ℕ → FeedNameAnswer
no_feed_name k = record { number = k; given = 0; left = 0; at = 0; start = 0; len = 0 }

abbrev pub flat_feed_name : Next (View feed_name_format) → FeedNameAnswer
flat_feed_name = flat_next (λ x at n. record { number = 0; given = 1; left = n; at = at; start = x.0; len = x.1 }) no_feed_name

abbrev pub no_laser_point : ℕ → LaserPointAnswer
no_laser_point k = record {
  number = k;
  given = 0;
  left = 0;
  value = record { x_low_byte = 0; y_low_byte = 0; xy_high_nibbles = 0; color = 0 };
  at = 0;
}

abbrev laser_point : View laser_point_format → ℕ → ℕ → LaserPointAnswer
laser_point (a, (b, (c, d))) at n = record {
  number = 0;
  given = 1;
  left = n;
  value = record { x_low_byte = a; y_low_byte = b; xy_high_nibbles = c; color = d };
  at = at;
}

abbrev pub flat_laser_point : Next (View laser_point_format) → LaserPointAnswer
flat_laser_point = flat_next laser_point no_laser_point

-- with the output after it
abbrev pub flat_copy : Answer × List ℕ → CopyAnswer × List ℕ
flat_copy (took n, out) = (record { number = 0; len = n }, out)
flat_copy (denied k, out) = (record { number = k; len = 0 }, out)
