use Rattle.text.proofs.Prints.{put-before, put_in, put-past}
use Rattle.text.proofs.put_char.Goals as goal

pub returns-then-at-start : goal.returns-then-at-start
returns-then-at-start c = search put-before

pub returns-then-i-out : goal.returns-then-i-out
returns-then-i-out c = search put_in

pub returns : goal.returns
returns c = search put-past
