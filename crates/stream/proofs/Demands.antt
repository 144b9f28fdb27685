-- The three demands, each one theorem about the definitions.
use Rattle.stream.specs.Claims as claims
use Rattle.stream.proofs.Numbers.{numbers, ends}
use Rattle.stream.proofs.Bodies.{reads-body, reads-packet, writes_body}
use Rattle.stream.proofs.Rewritten.{writes-packet}
use Rattle.stream.proofs.Accepts.{accepts}
use Rattle.stream.proofs.Written.{written, accepted-is}
use Rattle.stream.proofs.Walked.{walked}

pub demand-1 : claims.Demand1
demand-1 = (numbers, ends)

pub reads-written : claims.ReadsWritten
reads-written = (reads-body, reads-packet)

pub writes-read : claims.WritesRead
writes-read = (writes_body, writes-packet)

pub demand-2 : claims.Demand2
demand-2 = (reads-written, writes-read, accepts)

pub demand-3 : claims.Demand3
demand-3 = (written, accepted-is, walked)
