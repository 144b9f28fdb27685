-- Which messages the writer accepted, and as which bytes.
use Rattle.std.specs.Prelude.{ℕ, ◌≡◌, List, [], take, drop}
use Rattle.format.specs.Format.{number, Read, got, refused, decode, All}
use Rattle.protocol.specs.Message.{Message, Sendable, packet}
use Rattle.writing.specs.Call.{Call, closes, Typed, calls_of}
use Rattle.writing.specs.Writer.{Writer, idle, Outcome, apply, Progress, run}

-- state, output and taken calls after a list of calls from a state, on one output
abbrev pub after : List Call → Writer → List ℕ → Progress
after cs w o = run cs (record { writer = w; output = o; taken = [] })

-- what a close then leaves
abbrev pub closing : Progress → Outcome
closing s = apply closes s.writer s.output

abbrev number_in : Read ℕ → ℕ
number_in (got n t) = n
number_in (refused n) = 0

-- an output's size field
abbrev pub size_in : List ℕ → ℕ
size_in o = number_in (decode (number 4) (drop 8 o))

-- the output's first bytes, as many as the size field says
abbrev pub closed_bytes : List ℕ → List ℕ
closed_bytes o = take (size_in o) o

-- what a taken close leaves: the taken calls since the open are those that give one message, which can be sent, and whose packet stands first in the output
pub record Closed (s : Progress) : Type 0 where
  pub message : Message
  pub gave : s.taken ≡ calls_of message
  pub sendable : Sendable message
  pub stands : closed_bytes (closing s).output ≡ packet message

-- the writer accepted a message as these bytes: some calls, refused ones included, from a fresh or closed state, on some output;
-- the taken ones since the open gave the message's values, items in order, the close was taken, and the bytes stand first
pub record Accepted (bytes : List ℕ) (m : Message) : Type 0 where
  pub calls : List Call
  pub writer : Writer
  pub output : List ℕ
  pub typed : All Typed calls
  pub fresh : writer.turn ≡ idle
  pub gave : (after calls writer output).taken ≡ calls_of m
  pub closed : (closing (after calls writer output)).number ≡ 0
  pub stands : closed_bytes (closing (after calls writer output)).output ≡ bytes
