-- Laws of the headers with which a packet is opened.
use Prim.Native.Nat.{ℕ}
use mathlib.Core.Path.{◌≡◌, refl, ◌∙◌}
use mathlib.Core.Bool.{Bool, true, false}
use mathlib.Core.List.{List}
use lib.ListN.{length}
use Rattle.format.specs.Format.{Value, number, ◌&◌, encode, encode_number, size}
use Rattle.protocol.specs.Layer.{Layer, PINF, SDMX, FPTC, FSEL, FINF, CAEX, header_length, has_hint, header, layer_header}
use Rattle.put.specs.Put.{Writes, Weighs}
use Rattle.put.specs.Faults.{none}
use Rattle.put.proofs.Writing.{put-nil, put-pair}
use Rattle.put.proofs.Bodies.{Weighed, weighed-by, sized-whole}

-- ---- content type, and the content hint where there is one

module _ (l : Layer) {b : Bool} (e : b ≡ has_hint l) {t h p q : ℕ} {o o₁ : List ℕ} (a : Writes (number 4) t p o q o₁) where
  pub hint-written : b ≡ true → {r : ℕ} {o₂ : List ℕ} → Writes (number 4) h q o₁ r o₂ → Writes (layer_header l) (t, h) p o r o₂
  hint-written f c = put-pair a (rw (← e, f) c)

  pub no-hint : b ≡ false → Writes (layer_header l) (t, h) p o q o₁
  unfolding encode encode_number
  no-hint f = put-pair a (rw (← e, f) (record { writes = put-nil q o₁ }))

-- ---- the headers

headers-size : (l : Layer) (v : Value (header & layer_header l)) → header_length l ≡ size (header & layer_header l) v
unfolding size
headers-size PINF v = refl
headers-size SDMX v = refl
headers-size FPTC v = refl
headers-size FSEL v = refl
headers-size FINF v = refl
headers-size CAEX v = refl

-- a write of them is weighed by their length
pub headers-weighed : (l : Layer) (v : Value (header & layer_header l)) {n len : ℕ} {out : List ℕ} → len ≡ header_length l
    → Weighs n false false false 0 len (length out) → Weighed n false false false (header & layer_header l) v 0 out
headers-weighed l v e w = weighed-by none false false false w refl (sized-whole (e ∙ headers-size l v))
