-- From whose turn it is and what a write answers to what a call does.
use Prim.Native.Nat.{ℕ, zero, suc, ◌+◌}
use mathlib.Core.Path.{◌≡◌, refl, ◌∙◌}
use mathlib.Core.Bool.{Bool, true, false, ◌&&◌}
use mathlib.Core.List.{List}
use native.Mathlib.Nat.{add-zero}
use native.Mathlib.Omega.{arith}
use lib.ListN.{length}
use lib.Seq.{sets}
use Rattle.format.specs.Copy.{Answer, took, denied}
use Rattle.format.specs.Format.{number, ◌&◌, encode, pick}
use Rattle.format.specs.Fault.{weighed}
use Rattle.protocol.specs.Layer.{header, layer_header}
use Rattle.protocol.specs.Kind.{Kind, layer, content_type}
use Rattle.protocol.specs.Message.{header_of, headers_of}
use Rattle.refusal.specs.Number as refusal
use Rattle.refusal.specs.declared.Refusal.{Refusal}
use Rattle.refusal.proofs.Exact.{never-none}
use Rattle.put.specs.Put as put
use Rattle.put.specs.Put.{Weighs, Writes, put_judged, put_at, put_head}
use Rattle.writing.specs.Call.{Part, Layout, plain, counted, layout_of, layout_zero, layout_over, layout_long, layout_bytes}
use Rattle.writing.specs.Call.{Call, opens, give, closes, bytes_of, zero_in, over_limit_in, too_long_in}
use Rattle.writing.specs.Writer.{Turn, idle, body_due, Writer, Outcome, is_idle, is_close, behind_headers, part_in_turn, in_turn, next_part, next_turn}
use Rattle.writing.specs.Writer.{start_of, end_of, stored, settled, apply}

-- ---- a refusal

not_due : (b : Bool) (r : Refusal) → refusal.number r ≡ pick b 0 14 → b ≡ false
not_due true r e = absurd (never-none r e)
not_due false r e = refl

-- of a call out of turn
pub out-of-turn : (c : Call) (w : Writer) (r : Refusal) {o : List ℕ} {b : Bool} → b ≡ in_turn c w.turn
    → refusal.number r ≡ pick (b && behind_headers w.turn w.at) 0 14 → record { number = refusal.number r; writer = w; output = o } ≡ apply c w o
unfolding apply
out-of-turn c w r e d =
    let f = not_due (in_turn c w.turn && behind_headers w.turn w.at) r (rw (← e) d) in
    rw (d, e, f) refl

-- ---- a call in turn

is-due : (b : Bool) → ◌≡◌ {A = ℕ} 0 (pick b 0 14) → b ≡ true
is-due true e = refl
is-due false e = absurd (omega (arith, e))

module _ (c : Call) (w : Writer) (o : List ℕ) {b : Bool} (e : b ≡ in_turn c w.turn) (d : ◌≡◌ {A = ℕ} 0 (pick (b && behind_headers w.turn w.at) 0 14)) where
  -- does what its number says
  in-turn : (n : ℕ) → n ≡ weighed (zero_in c) (over_limit_in c) (too_long_in c) (end_of c w.at) (length o) → settled n c w o ≡ apply c w o
  unfolding apply
  in-turn n f = let t = is-due (in_turn c w.turn && behind_headers w.turn w.at) (rw (← e) d) in rw (f, t) refl

-- what a write's answer makes of the state
abbrev outcome : Turn → Writer → Answer × List ℕ → Outcome
outcome t w (took n, out) = record { number = 0; writer = record { turn = t; at = n }; output = out }
outcome t w (denied k, out) = record { number = k; writer = w; output = out }

outcome-settled : (c : Call) (w : Writer) (o : List ℕ) (n : ℕ) → sets o (start_of c w.at) (bytes_of c) ≡ stored c w.at o
    → outcome (next_turn c w.turn) w (put.settled n (start_of c w.at) (bytes_of c) o) ≡ settled n c w o
outcome-settled c w o zero s = rw s refl
outcome-settled c w o (suc n) s = refl

-- ---- a part

-- a body or an item; or a head, the count behind it
abbrev pub put_layout : Layout → (at : ℕ) (o : List ℕ) → Answer × List ℕ
put_layout (plain f v) at o = put_at f v at o
put_layout (counted f v w n) at o = put_head f v w n at o

layout-settled : (y : Layout) (at : ℕ) (o : List ℕ)
    → put_layout y at o ≡ put.settled (weighed (layout_zero y) (layout_over y) (layout_long y) (at + length (layout_bytes y)) (length o)) at (layout_bytes y) o
unfolding put_judged encode
layout-settled (plain f v) at o = refl
layout-settled (counted f v w n) at o = refl

module _ (p : Part) (w : Writer) (o : List ℕ) {b : Bool} (e : b ≡ part_in_turn p w.turn) (d : ◌≡◌ {A = ℕ} 0 (pick (b && behind_headers w.turn w.at) 0 14)) where
  gave : {x : Answer × List ℕ} → x ≡ put_layout (layout_of p) w.at o → outcome (next_part p w.turn) w x ≡ apply (give p) w o
  gave a = rw (a, layout-settled (layout_of p) w.at o) (outcome-settled (give p) w o _ refl ∙ in-turn (give p) w o e d _ refl)

  pub refused : {k : ℕ} {after : List ℕ} → ◌≡◌ {A = Answer × List ℕ} (denied k, after) (put_layout (layout_of p) w.at o)
      → record { number = k; writer = w; output = after } ≡ apply (give p) w o
  refused a = gave a

  pub taken : {n : ℕ} {t : Turn} {after : List ℕ} → ◌≡◌ {A = Answer × List ℕ} (took n, after) (put_layout (layout_of p) w.at o)
      → t ≡ next_part p w.turn → record { number = 0; writer = record { turn = t; at = n }; output = after } ≡ apply (give p) w o
  taken a s = rw s (gave a)

-- what `search` makes the answers of a call that gives a part from
pub ruleset calls = (refl, out-of-turn, refused, taken)

-- ---- open

-- the headers at the first byte
abbrev put_headers : (k : Kind) (request hint : ℕ) (o : List ℕ) → Answer × List ℕ
put_headers k request hint o =
    put_judged false false false (header & layer_header (layer k)) (header_of (layer k) 0 request, (content_type k, hint)) 0 o

headers-settled : (k : Kind) (request hint : ℕ) (o : List ℕ)
    → put_headers k request hint o
    ≡ put.settled (weighed false false false (0 + length (headers_of k 0 request hint)) (length o)) 0 (headers_of k 0 request hint) o
unfolding put_judged encode headers_of
headers-settled k request hint o = refl

module _ (k : Kind) (request hint : ℕ) (w : Writer) (o : List ℕ) {b : Bool} (e : b ≡ is_idle w.turn)
    (d : ◌≡◌ {A = ℕ} 0 (pick (b && behind_headers w.turn w.at) 0 14)) where
  pub opened : {x : Answer × List ℕ} → x ≡ put_headers k request hint o → outcome (body_due k) w x ≡ apply (opens k request hint) w o
  opened a = rw (a, headers-settled k request hint o)
      (outcome-settled (opens k request hint) w o _ refl ∙ in-turn (opens k request hint) w o e d _ refl)

-- ---- close

module _ (w : Writer) (o : List ℕ) {b : Bool} (e : b ≡ is_close w.turn) (d : ◌≡◌ {A = ℕ} 0 (pick (b && behind_headers w.turn w.at) 0 14)) where
  pub close-refused : (r : Refusal) → Weighs (refusal.number r) false false false w.at 0 (length o)
      → record { number = refusal.number r; writer = w; output = o } ≡ apply closes w o
  close-refused r a = as_it_was (refusal.number r) (never-none r) ∙ in-turn closes w o e d (refusal.number r) a.weighs
    where
      as_it_was : (n : ℕ) → (n ≡ 0 → ⊥) → record { number = n; writer = w; output = o } ≡ settled n closes w o
      as_it_was zero z = absurd (z refl)
      as_it_was (suc n) z = refl

  pub closed : {place : ℕ} {after : List ℕ} → Weighs 0 false false false w.at 0 (length o) → Writes (number 4) w.at 8 o place after
      → record { number = 0; writer = record { turn = idle; at = w.at }; output = after } ≡ apply closes w o
  closed a f = rw f.writes.stored (at_its_place ∙ in-turn closes w o e d 0 a.weighs)
    where
      at_its_place : record { number = 0; writer = record { turn = idle; at = w.at }; output = sets o 8 (encode (number 4) w.at) } ≡ settled 0 closes w o
      at_its_place = rw add-zero refl
