use Rattle.std.proofs.lemmas.Slice.Eq.{strip_prefix_is}
use Rattle.forms.proofs.Texts.{skipped_from_cases}
use Rattle.forms.proofs.scan.skip.Goals as goal
use Rattle.std.proofs.lemmas.Bool.Decides.{Decides-eqb}

pub returns : goal.returns
returns c = record { value = skipped_from_cases _ _ _ (strip_prefix_is Decides-eqb _ _ _ c.strip_prefix.ensures.cases) }
