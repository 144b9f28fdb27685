use Rattle.text.proofs.Texts.{texts}
use Rattle.text.proofs.+put_decimal.Goals as goal

pub returns-then-n-lt10 : goal.returns-then-n-lt10
returns-then-n-lt10 t c = search texts

pub returns : goal.returns
returns t c = search texts
