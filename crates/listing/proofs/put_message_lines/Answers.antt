use Rattle.listing.proofs.Reports.{reports}
use Rattle.listing.proofs.put_message_lines.Goals as goal

pub returns-in-Pinf : goal.returns-in-Pinf
returns-in-Pinf c = search reports

pub returns-in-Sdmx : goal.returns-in-Sdmx
returns-in-Sdmx c = search reports

pub returns-in-Fptc : goal.returns-in-Fptc
returns-in-Fptc c = search reports

pub returns-in-Fsel : goal.returns-in-Fsel
returns-in-Fsel c = search reports

pub returns-in-Finf : goal.returns-in-Finf
returns-in-Finf c = search reports

pub returns-in-Caex : goal.returns-in-Caex
returns-in-Caex c = search reports
