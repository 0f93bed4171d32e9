use Rattle.checked_laws.proofs.BySite.{calculations_are_by_site}
use Rattle.checked_laws.proofs.laws.calculations_are_by_site.Goals as goal

pub returns : goal.returns
returns c = calculations_are_by_site
