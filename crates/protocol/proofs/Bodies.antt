-- What a layer read, by its cases and by the kind: for the inverses of what the layers' answers say.
use Prim.Native.Nat.{ℕ}
use Rattle.format.specs.Format.{Format, number, code, cstring, ucs2, list, ◌&◌, pick}
use Rattle.format.specs.View.{View}
use Rattle.protocol.specs.Kind.{Kind, body_of, same_kind}
use Rattle.protocol.specs.Step.{Body, known, unread, refused_with}

-- the answer about a body, by its cases
abbrev pub body_by : {R : Type 0} → ((k : Kind) → View (body_of k) → ℕ → R) → R → (ℕ → R) → Body View → R
body_by read unknown refused (known k v e) = read k v e
body_by read unknown refused unread = unknown
body_by read unknown refused (refused_with n) = refused n

-- ---- a view taken for one of another kind, which it is where the kinds are the same

-- the numbers of a view, whatever its format
pub data Numbers : Type 0 where
  one : ℕ → Numbers
  two : Numbers → Numbers → Numbers

abbrev pub numbers_of : (f : Format) → View f → Numbers
numbers_of (number w) n = one n
numbers_of (code n r) c = one c
numbers_of (cstring m) x = two (one x.0) (one x.1)
numbers_of (ucs2 m) x = two (one x.0) (one x.1)
numbers_of (list w f) x = two (one x.0) (one x.1)
numbers_of (f & g) x = two (numbers_of f x.0) (numbers_of g x.1)

abbrev pub only : Numbers → ℕ
only (one n) = n
only (two a b) = 0

abbrev pub left : Numbers → Numbers
left (one n) = one n
left (two a b) = a

abbrev pub right : Numbers → Numbers
right (one n) = one n
right (two a b) = b

abbrev pub view_of : (f : Format) → Numbers → View f
view_of (number w) n = only n
view_of (code n r) c = only c
view_of (cstring m) x = (only (left x), only (right x))
view_of (ucs2 m) x = (only (left x), only (right x))
view_of (list w f) x = (only (left x), only (right x))
view_of (f & g) x = (view_of f (left x), view_of g (right x))

-- a function of the kinds of a layer, by a row each: the last one
abbrev pub as_kind : {A : Type 0} (j : Kind) → (View (body_of j) → A) → (k : Kind) → View (body_of k) → A
as_kind j row k v = row (view_of (body_of j) (numbers_of (body_of k) v))

-- and one before others
abbrev pub if_kind : {A : Type 0} (j : Kind) → (View (body_of j) → A) → ((k : Kind) → View (body_of k) → A) → (k : Kind) → View (body_of k) → A
if_kind j row others k v = pick (same_kind k j) (as_kind j row k v) (others k v)
