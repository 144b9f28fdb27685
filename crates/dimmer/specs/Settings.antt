-- A rack at the start, and what a body that was read sets, by the places of its levels and records.
use Rattle.std.specs.Prelude.{ℕ, List, take, drop}
use Rattle.format.specs.View.{steps}
use Rattle.protocol.specs.Kind.{channel_level_format}
use Rattle.sdmx.specs.declared.ChBk.{ChBk}
use Rattle.dimming.specs.Levels.{Setting, block_settings, list_settings, initial}

-- a rack's universe, and its levels at the start
abbrev pub start : (universe : ℕ) → ℕ × List ℕ
start u = (u, initial)

-- what a channel block sets, whose levels are the bytes of its range
abbrev pub block_set : (universe : ℕ) (body : List ℕ) → ChBk → List Setting
block_set u s x =
    let levels : List ℕ = take x.channel_levels.len (drop x.channel_levels.start s) in
    block_settings u (x.blind, (x.universe_index, (x.first_channel, levels)))

-- what n records of a channel list set, from an offset on
abbrev pub records_set : (universe : ℕ) (body : List ℕ) (at n : ℕ) → List Setting
records_set u s at n = list_settings u (steps channel_level_format n s at n)
