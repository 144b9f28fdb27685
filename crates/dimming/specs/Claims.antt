-- What is promised of the levels over every list of messages. Each claim is proved under its name in the file of proofs/ beside it.
use Rattle.std.specs.Prelude.{ℕ, ◌+◌, ◌<◌, ◌≡◌, List, [], ◌∷◌, ◌++◌, length, get_or}
use Rattle.format.specs.Format.{Value, got, refused, decode, concat_map, All, In}
use Rattle.protocol.specs.Kind.{ChBk, ChLs, body_of}
use Rattle.dimming.specs.Levels.{Message, chbk, chls, Setting, change}
use Rattle.dimming.specs.Levels.{number, settings_of, made, set_all, answer, initial}

-- ---- every list of messages

-- the levels after a list of calls, each on what the call before left
unfoldable pub feed : (universe : ℕ) → List Message → List ℕ → List ℕ
feed u [] levels = levels
feed u (m ∷ ms) levels = feed u ms (answer (change u m) levels).1

-- all that the messages of a list gave the channels, in order; a refused one gave nothing
abbrev pub given : (universe : ℕ) → List Message → List Setting
given u ms = concat_map (λ m. made (change u m)) ms

-- a setting of another channel
abbrev pub Elsewhere : (channel : ℕ) → Setting → Type 0
Elsewhere channel x = x.0 ≡ channel → ⊥

-- the level that settings leave a channel with: the one that it is given last; what it had before, if it is given none
pub data Last (channel before : ℕ) : List Setting → ℕ → Type 0 where
  never : {xs : List Setting} → All (Elsewhere channel) xs → Last channel before xs before
  last : (ahead : List Setting) (level : ℕ) (behind : List Setting) → All (Elsewhere channel) behind
      → Last channel before (ahead ++ (channel, level) ∷ behind) level

-- levels-hold (Theorem): after every list of messages, refused ones included, there are 512 levels, and each channel's is the last one
-- that a message which was taken gave it, or 0
abbrev pub LevelsHold : Type 0
LevelsHold = (u : ℕ) (ms : List Message)
    → (length (feed u ms initial) ≡ 512)
    × ((channel : ℕ) → channel < 512 → Last channel 0 (given u ms) (get_or (feed u ms initial) channel 0))

-- ---- what a message sets

-- a message names a channel of a universe, with a level: a ChBk that is not blind and is for the universe, from its first channel on; a
-- ChLs by a record for the universe
pub data Names (u : ℕ) : Message → Setting → Type 0 where
  in_block : {s rest levels : List ℕ} {first : ℕ} → decode (body_of ChBk) s ≡ got (0, (u, (first, levels))) rest
      → (i : ℕ) → i < length levels → Names u (chbk s) (first + i, get_or levels i 0)
  in_list : {s rest : List ℕ} {records : List (ℕ × (ℕ × ℕ))} {channel level : ℕ} → decode (body_of ChLs) s ≡ got records rest
      → In (u, (channel, level)) records → Names u (chls s) (channel, level)

-- settings-named (Named): a message asks for the settings that it names, and for no others
abbrev pub SettingsNamed : Type 0
SettingsNamed = (u : ℕ) (m : Message) (x : Setting)
    → (In x (settings_of (change u m)) → Names u m x) × (Names u m x → In x (settings_of (change u m)))

-- later-wins (Theorem): a ChLs that is taken leaves a channel with the level of the last of its records that names it
abbrev pub LaterWins : Type 0
LaterWins = (u channel level : ℕ) (s rest : List ℕ) (ahead behind : List (ℕ × (ℕ × ℕ))) (levels : List ℕ)
    → decode (body_of ChLs) s ≡ got (ahead ++ (u, (channel, level)) ∷ behind) rest → All (λ x. x.0 ≡ u → x.1.0 ≡ channel → ⊥) behind
    → number (change u (chls s)) ≡ 0 → channel < length levels → get_or (answer (change u (chls s)) levels).1 channel 0 ≡ level

-- ---- demand 1

-- how a message's body is read, whatever it holds: it reads, or it is refused with a number
pub data Reads : Message → Type 0 where
  block_reads : {s rest : List ℕ} {v : Value (body_of ChBk)} → decode (body_of ChBk) s ≡ got v rest → Reads (chbk s)
  list_reads : {s rest : List ℕ} {v : Value (body_of ChLs)} → decode (body_of ChLs) s ≡ got v rest → Reads (chls s)

pub data Unread (n : ℕ) : Message → Type 0 where
  block_unread : {s : List ℕ} → decode (body_of ChBk) s ≡ refused n → Unread n (chbk s)
  list_unread : {s : List ℕ} → decode (body_of ChLs) s ≡ refused n → Unread n (chls s)

-- a message's answer: taken with 0 where it reads and every channel that it names is below 512; refused with 20 where it names one that is
-- not; refused with 7 where it does not read. A refused one leaves the levels as they were
pub data Numbered (u : ℕ) (m : Message) (levels : List ℕ) : ℕ × List ℕ → Type 0 where
  taken : Reads m → ((x : Setting) → Names u m x → x.0 < 512) → Numbered u m levels (0, set_all (settings_of (change u m)) levels)
  past : {x : Setting} → Names u m x → 511 < x.0 → Numbered u m levels (20, levels)
  not_read : Unread 7 m → Numbered u m levels (7, levels)

-- levels-numbers (Numbers)
abbrev pub LevelsNumbers : Type 0
LevelsNumbers = (u : ℕ) (m : Message) (levels : List ℕ) → Numbered u m levels (answer (change u m) levels)
