-- What the functions of the patch book answer, as plain fields.
use Rattle.std.specs.Prelude.{ℕ, Option, Some, None}
use Rattle.book.specs.declared.Entry.{Entry}
use Rattle.bridge_book.specs.declared.EntryAnswer.{EntryAnswer}

-- an entry with `given` 1, or nothing
abbrev pub flat_entry : Option Entry → EntryAnswer
flat_entry (Some e) = record {
  given = 1;
  fixture_identifier = e.fixture_identifier;
  universe = e.universe;
  channel = e.channel;
  channel_count = e.channel_count;
}
flat_entry None = record { given = 0; fixture_identifier = 0; universe = 0; channel = 0; channel_count = 0 }

-- the first free channel, or 512
abbrev pub flat_free : Option ℕ → ℕ
flat_free (Some c) = c
flat_free None = 512
