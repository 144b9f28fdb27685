-- Laws of the headers: their length, their size field, and that they are read back.
use Prim.Native.Nat.{ℕ, ◌+◌, ◌^◌, ◌<◌}
use mathlib.Core.Path.{◌≡◌, refl, ap, ◌∙◌}
use mathlib.Core.List.{List, ◌++◌, append_assoc}
use native.Mathlib.Omega.{arith}
use lib.ListN.{length, drop, length-append}
use lib.Seq.{sets, drop-append_seam}
use lib.Dec.{ltb}
use borrow.Author.Tests.{ltb-true}
use Rattle.format.specs.Format.{number, Value, got, pick, decode, encode, encode_number, Valid}
use Rattle.format.proofs.Codec.{round_trip}
use Rattle.format.proofs.Width.{length-is-width}
use Rattle.protocol.specs.Layer.{Layer, PINF, SDMX, FPTC, FSEL, FINF, CAEX, cookie, header_length, has_hint, hint_length, hinted, header, layer_header, citp}
use Rattle.protocol.specs.Kind.{Kind, layer, content_type}
use Rattle.protocol.specs.Message.{header_of, headers_of}
use Rattle.protocol.proofs.Every.{every, every-kind}

-- ---- their length

pub header-length : (l : Layer) → header_length l ≡ 20 + (4 + hint_length l)
header-length PINF = refl
header-length SDMX = refl
header-length FPTC = refl
header-length FSEL = refl
header-length FINF = refl
header-length CAEX = refl

pub length-header : (h : Value header) → length (encode header h) ≡ 20
length-header h = length-is-width header (tt, (tt, (tt, (tt, (tt, (tt, (tt, tt))))))) h

pub length-layer : (l : Layer) (t : Value (layer_header l)) → length (encode (layer_header l) t) ≡ 4 + hint_length l
length-layer l t = length-is-width (layer_header l) (tt, tt) t

pub length-headers : (k : Kind) (size request hint : ℕ) → length (headers_of k size request hint) ≡ header_length (layer k)
unfolding headers_of
length-headers k size request hint =
    let l = layer k in
    let a = encode header (header_of l size request) in
    let b = encode (layer_header l) (content_type k, hint) in
    omega (arith, length-append a b, length-header (header_of l size request), length-layer l (content_type k, hint), header-length l)

-- ---- the size field is bytes 8 to 11

pub size-stored : (k : Kind) (n size request hint : ℕ) (xs : List ℕ)
    → sets (headers_of k n request hint ++ xs) 8 (encode (number 4) size) ≡ headers_of k size request hint ++ xs
unfolding headers_of encode encode_number
size-stored k n size request hint xs = refl

size-there : (k : Kind) (size request hint : ℕ) (xs : List ℕ)
    → drop 8 (headers_of k size request hint ++ xs) ≡ encode (number 4) size ++ drop 12 (headers_of k size request hint ++ xs)
unfolding headers_of encode encode_number
size-there k size request hint xs = refl

pub size-read : (k : Kind) (size request hint : ℕ) (xs : List ℕ) → size < 256 ^ 4
    → decode (number 4) (drop 8 (headers_of k size request hint ++ xs)) ≡ got size (drop 12 (headers_of k size request hint ++ xs))
size-read k size request hint xs h =
    ap (decode (number 4)) (size-there k size request hint xs) ∙ round_trip (number 4) size (drop 12 (headers_of k size request hint ++ xs)) h

-- ---- they are read back

abbrev Fits4 : ℕ → Type 0
Fits4 n = n < 256 ^ 4

cookie-fits : (l : Layer) → Fits4 (cookie l)
cookie-fits PINF = omega arith
cookie-fits SDMX = omega arith
cookie-fits FPTC = omega arith
cookie-fits FSEL = omega arith
cookie-fits FINF = omega arith
cookie-fits CAEX = omega arith

pub type-fits : (k : Kind) → Fits4 (content_type k)
unfolding every
type-fits k = ltb-true (content_type k) (256 ^ 4) (every-kind (λ j. ltb (content_type j) (256 ^ 4)) refl k)

pub header-valid : (l : Layer) (size request : ℕ) → size < 256 ^ 4 → request < 65536 → Valid header (header_of l size request)
header-valid l size request hs hr =
    let c : Fits4 citp = omega arith in
    let one : 1 < 256 ^ 1 = omega arith in
    let none-minor : 0 < 256 ^ 1 = omega arith in
    let count : 1 < 256 ^ 2 = omega arith in
    let part : 0 < 256 ^ 2 = omega arith in
    (c, (one, (none-minor, (hr, (hs, (count, (part, cookie-fits l)))))))

-- the hint as it is read: what was given in FPTC, 0 elsewhere
abbrev pub hint_read : Layer → ℕ → ℕ
hint_read l hint = pick (has_hint l) hint 0

pub hint-sent : (l : Layer) (type hint : ℕ) → encode (layer_header l) (type, hint) ≡ encode (layer_header l) (type, hint_read l hint)
unfolding encode encode_number
hint-sent PINF type hint = refl
hint-sent SDMX type hint = refl
hint-sent FPTC type hint = refl
hint-sent FSEL type hint = refl
hint-sent FINF type hint = refl
hint-sent CAEX type hint = refl

pub hint-fits : (l : Layer) (hint : ℕ) → hint < 4294967296 → hint_read l hint < 256 ^ hint_length l
hint-fits PINF hint h = omega arith
hint-fits SDMX hint h = omega arith
hint-fits FPTC hint h = h
hint-fits FSEL hint h = omega arith
hint-fits FINF hint h = omega arith
hint-fits CAEX hint h = omega arith

pub hint-told : (l : Layer) (hint : ℕ) → hinted l (hint_read l hint) ≡ hinted l hint
hint-told PINF hint = refl
hint-told SDMX hint = refl
hint-told FPTC hint = refl
hint-told FSEL hint = refl
hint-told FINF hint = refl
hint-told CAEX hint = refl

pub headers-read : (k : Kind) (size request hint : ℕ) (xs : List ℕ) → size < 256 ^ 4 → request < 65536
    → decode header (headers_of k size request hint ++ xs) ≡ got (header_of (layer k) size request) (encode (layer_header (layer k)) (content_type k, hint) ++ xs)
unfolding headers_of
headers-read k size request hint xs hs hr =
    rw append_assoc (round_trip header (header_of (layer k) size request) (encode (layer_header (layer k)) (content_type k, hint) ++ xs) (header-valid (layer k) size request hs hr))

pub layer-read : (k : Kind) (hint : ℕ) (xs : List ℕ) → hint < 4294967296
    → decode (layer_header (layer k)) (encode (layer_header (layer k)) (content_type k, hint) ++ xs) ≡ got (content_type k, hint_read (layer k) hint) xs
layer-read k hint xs h =
    rw (hint-sent (layer k) (content_type k) hint)
    (round_trip (layer_header (layer k)) (content_type k, hint_read (layer k) hint) xs (type-fits k, hint-fits (layer k) hint h))

-- what stands behind the base header, and behind both
pub behind-header : (k : Kind) (size request hint : ℕ) (xs : List ℕ)
    → drop 20 (headers_of k size request hint ++ xs) ≡ encode (layer_header (layer k)) (content_type k, hint) ++ xs
unfolding headers_of encode encode_number
behind-header k size request hint xs = refl

pub behind-headers : (k : Kind) (size request hint : ℕ) (xs : List ℕ) → drop (header_length (layer k)) (headers_of k size request hint ++ xs) ≡ xs
behind-headers k size request hint xs = rw (← length-headers k size request hint) (drop-append_seam (headers_of k size request hint) xs)
