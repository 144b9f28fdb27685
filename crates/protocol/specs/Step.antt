-- The report on each packet of a stream, and the step that gives it.
use Rattle.std.specs.Prelude.{ℕ, zero, suc, ◌+◌, ◌-◌, ◌||◌, not, List, length, take, drop, ltb, eqb}
use Rattle.std.proofs.Math.Option.{Option, none, some}
use Rattle.format.specs.Format.{Format, Value, Read, got, refused, pick, decode}
use Rattle.format.specs.View.{View, Seen, seen, missed, view, look}
use Rattle.format.specs.Walk.{Step, stop, report, Walked, walk_all}
use Rattle.format.specs.Fault.{limit}
use Rattle.protocol.specs.Layer.{Layer, cookie, header_length, hinted, layer_of, header, citp, layer_header}
use Rattle.protocol.specs.Layer.{cookie_field, major_field, request_field, size_field, count_field, part_field, layer_field}
use Rattle.protocol.specs.Kind.{Kind, layer, body_of, kind_of}

-- ---- what a packet holds

-- a message of a kind: the offset of its body, in FPTC its content hint, its fields, the count of added bytes;
-- an unknown packet: the layer's cookie and, in a known layer, the content type;
-- a fragment: its part and the count of parts;
-- the number of a refusal, 6 to 10 or 19
pub data Content (Fields : Format → Type 0) : Type 0 where
  message : (k : Kind) (start : ℕ) (hint : Option ℕ) → Fields (body_of k) → (added : ℕ) → Content Fields
  unknown : (layer : ℕ) (type : Option ℕ) → Content Fields
  fragment : (part count : ℕ) → Content Fields
  refusal : (number : ℕ) → Content Fields

-- a packet's offset, size, request_index and what it holds
pub record Report (Fields : Format → Type 0) : Type 0 where
  pub offset : ℕ
  pub size : ℕ
  pub request : ℕ
  pub content : Content Fields

-- ---- a body, by its layer and content type

-- the fields of a kind and the bytes taken; no kind of the layer has the content type; the number of a refusal
pub data Body (Fields : Format → Type 0) : Type 0 where
  known : (k : Kind) → Fields (body_of k) → (taken : ℕ) → Body Fields
  unread : Body Fields
  refused_with : (number : ℕ) → Body Fields

abbrev pub body_seen : (k : Kind) → Seen (View (body_of k)) → Body View
body_seen k (seen v e) = known k v e
body_seen k (missed n) = refused_with n

abbrev pub body_as : Option Kind → List ℕ → Body View
body_as none s = unread
body_as (some k) s = body_seen k (view (body_of k) s 0)

-- what a body of a layer holds
unfoldable pub read_body : Layer → (type : ℕ) → List ℕ → Body View
read_body l type s = body_as (kind_of l type) s

-- ---- one packet, cut out of the stream

-- a body that starts at an offset of the stream, with so many bytes up to the packet's end: those that were not taken are the added ones
abbrev pub content_of : (l : Layer) (start extent type hint : ℕ) → Body View → Content View
content_of l start extent type hint (known k v taken) = message k start (hinted l hint) v (extent - taken)
content_of l start extent type hint unread = unknown (cookie l) (some type)
content_of l start extent type hint (refused_with n) = refusal n

abbrev pub read_layer_header : (l : Layer) (at : ℕ) (packet : List ℕ) → Read (Value (layer_header l)) → Content View
read_layer_header l at packet (refused n) = refusal 6
read_layer_header l at packet (got t rest) =
    content_of l (at + header_length l) (length packet - header_length l) t.0 t.1 (read_body l t.0 (drop (header_length l) packet))

-- an unknown layer; else a packet shorter than its headers; else by the content type
abbrev pub read_layer : (at c : ℕ) (packet : List ℕ) → Option Layer → Content View
read_layer at c packet none = unknown c none
read_layer at c packet (some l) =
    pick (ltb (length packet) (header_length l)) (refusal 6) (read_layer_header l at packet (decode (layer_header l) (drop 20 packet)))

-- a fragment, whatever its layer; else by the layer
unfoldable pub content_at : ℕ → Value header → List ℕ → Content View
content_at at h packet =
    pick (ltb 1 (count_field h) || ltb 0 (part_field h)) (fragment (part_field h) (count_field h))
    (read_layer at (layer_field h) packet (layer_of (layer_field h)))

-- ---- the step

-- a packet cut out of what is left of the stream; the next one stands at its size
abbrev pub cut : (at : ℕ) (rest : List ℕ) → Value header → Step (Report View)
cut at rest h =
    report (record { offset = at; size = size_field h; request = request_field h; content = content_at at h (take (size_field h) rest) }) (at + size_field h)

-- rows 2 to 5 of packet start, tested from the top: the number with which a packet may not start where so many bytes are left, or 0
abbrev pub start_number : Value header → (left : ℕ) → ℕ
start_number h left =
    pick (not (eqb (cookie_field h) citp)) 2
    (pick (not (eqb (major_field h) 1)) 3
    (pick (ltb (size_field h) 20 || ltb limit (size_field h)) 4
    (pick (ltb left (size_field h)) 5 0)))

-- 0 cuts the packet out, any other number stops the walk
abbrev pub started : (at : ℕ) (rest : List ℕ) → Value header → (number : ℕ) → Step (Report View)
started at rest h zero = cut at rest h
started at rest h (suc n) = stop (suc n) at

-- by the base header
abbrev pub headed : (at : ℕ) (rest : List ℕ) → Read (Value header) → Step (Report View)
headed at rest (refused n) = stop 1 at
headed at rest (got h t) = started at rest h (start_number h (length rest))

-- an empty rest ends the walk with 0, 1 to 19 bytes with 1
abbrev pub step_rest : (at : ℕ) (rest : List ℕ) → Step (Report View)
step_rest at rest = pick (eqb (length rest) 0) (stop 0 at) (pick (ltb (length rest) 20) (stop 1 at) (headed at rest (decode header rest)))

-- the packet at an offset of a stream; an offset past the end is an empty rest
unfoldable pub step_at : List ℕ → ℕ → Step (Report View)
unfolding content_at
step_at s at = step_rest at (drop at s)

-- the walk from the first byte: the reports, and the number and the offset of the end
unfoldable pub walk : List ℕ → Walked (Report View)
unfolding step_at
walk s = walk_all step_at s

-- ---- what a report stands for

-- the body of a message in the stream
abbrev pub body_in : List ℕ → (extent start : ℕ) → Layer → List ℕ
body_in s extent start l = take (extent - header_length l) (drop start s)

abbrev pub look_content : List ℕ → ℕ → Content View → Content Value
look_content s extent (message k start hint v added) = message k start hint (look (body_of k) (body_in s extent start (layer k)) v) added
look_content s extent (unknown c t) = unknown c t
look_content s extent (fragment p n) = fragment p n
look_content s extent (refusal n) = refusal n

-- a report with the values that its views find in the stream
unfoldable pub looked : List ℕ → Report View → Report Value
looked s r = record { offset = r.offset; size = r.size; request = r.request; content = look_content s r.size r.content }
