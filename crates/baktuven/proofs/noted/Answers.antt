use Rattle.std.proofs.Common.{ap, min, ◌∙◌}
use Rattle.baktuven.proofs.Windows.{all_in_places}
use Rattle.baktuven.proofs.noted.Goals as goal

pub returns : goal.returns
returns c = all_in_places _ _ _ _ _ _ _ _ c.requires.1 c.requires.0 c.in_window.ensures (c.min.ensures ∙ ap (min c.args.found) c.store.auto.findings) c.store.ensures c.rest.ensures
