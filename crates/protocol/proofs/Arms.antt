-- A body of a layer, by its content type: what the arms of a layer's dispatch show.
use Prim.Native.Nat.{ℕ}
use mathlib.Core.Path.{◌≡◌}
use mathlib.Core.List.{List}
use mathlib.Core.Option.{none}
use Rattle.format.specs.View.{View, Seen, view}
use Rattle.protocol.specs.Layer.{Layer}
use Rattle.protocol.specs.Kind.{Kind, layer, content_type, body_of, kind_of}
use Rattle.protocol.specs.Step.{unread, body_seen, read_body}
use Rattle.protocol.proofs.Lookup.{kind-found}

-- a kind's own content type: what its reader saw
pub arm : (k : Kind) (s : List ℕ) {type : ℕ} {v : Seen (View (body_of k))} → type ≡ content_type k → view (body_of k) s 0 ≡ v
    → body_seen k v ≡ read_body (layer k) type s
unfolding read_body
arm k s e q = rw (e, kind-found k, q)

-- a content type of no kind
pub no_arm : (l : Layer) (type : ℕ) (s : List ℕ) → kind_of l type ≡ none → unread ≡ read_body l type s
unfolding read_body
no_arm l type s e = rw e
