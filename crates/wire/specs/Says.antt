-- What an answer says: the value by its view with the offset behind it, or the number of the refusal.
use Rattle.std.specs.Prelude.{ℕ, Result, Ok, Err, Option, Some, None}
use Rattle.format.specs.View.{View, Seen, seen, missed, Next, item, done, broken}
use Rattle.protocol.specs.Kind.{Kind, body_of}
use Rattle.protocol.specs.Step.{Body, known, unread, refused_with}
use Rattle.refusal.specs.Number.{number}
use Rattle.refusal.specs.declared.Refusal.{Refusal}
use Rattle.wire.specs.declared.Cursor.{Cursor}
use Rattle.wire.specs.declared.CString.{CString}
use Rattle.wire.specs.declared.Ucs2.{Ucs2}
use Rattle.wire.specs.declared.Block.{Block}
use Rattle.wire.specs.declared.List.{List}

-- a value that was read, by its view, and the cursor behind it
abbrev pub says : {A V : Type 0} → (A → V) → Result (A × Cursor) Refusal → Seen V
says of (Ok x) = seen (of x.0) x.1.at
says of (Err r) = missed (number r)

-- a cursor behind what was passed over
abbrev pub passed_says : Result Cursor Refusal → Seen (Unit {0})
passed_says (Ok c) = seen tt c.at
passed_says (Err r) = missed (number r)

-- a step: an item by its view and what is left behind it, or done
abbrev pub next_says : {A N V : Type 0} → (A → V) → (N → ℕ) → Result (Option (A × List A N)) Refusal → Next V
next_says of count (Ok (Some x)) = item (of x.0) x.1.at (count x.1.left)
next_says of count (Ok None) = done
next_says of count (Err r) = broken (number r)

-- a message by its kind and its view, and the cursor behind its body; or a content type of no kind that is read
abbrev pub message_says : {M : Type 0} (kind : M → Kind) → ((m : M) → View (body_of (kind m))) → Result (Option (M × Cursor)) Refusal → Body View
message_says kind of (Ok (Some x)) = known (kind x.0) (of x.0) x.1.at
message_says kind of (Ok None) = unread
message_says kind of (Err r) = refused_with (number r)

-- ---- the views of fields

abbrev pub number_view : ℕ → ℕ
number_view n = n

abbrev pub cstring_range : CString → ℕ × ℕ
cstring_range x = (x.start, x.len)

abbrev pub ucs2_range : Ucs2 → ℕ × ℕ
ucs2_range x = (x.start, x.len)

abbrev pub block_range : Block → ℕ × ℕ
block_range x = (x.start, x.len)

abbrev pub list_range : {A N : Type 0} → (N → ℕ) → List A N → ℕ × ℕ
list_range count x = (x.at, count x.left)
