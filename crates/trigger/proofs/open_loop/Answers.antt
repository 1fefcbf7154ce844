use Rattle.trigger.proofs.Names.{trigger_long, did_opener}
use mathlib.Core.Path.{sym, ap, ◌∙◌}
use Rattle.spec.specs.Answers.{rule_of}
use Rattle.nest.specs.Finding.{number_from}
use Rattle.trigger.proofs.open_loop.Goals as goal

pub id_number-name-requires : goal.id_number-name-requires
id_number-name-requires c = (trigger_long _ c.args.job.ready.passed _ _ c.trigger-id.ensures, c.trigger-id.ensures.within)

pub invariant_of-w : goal.invariant_of-w
invariant_of-w c = record {
  sep_is = sym c.separators_of-sep.ensures;
  delimiters_are = c.delimiters_of-delimiters.ensures;
  id_is = c.trigger-id.ensures;
  name_is = c.id_number-name.ensures ∙ ap (number_from 0) c.trigger-id.ensures.bytes;
  depth_is = c.depth-depth.ensures;
}

pub returns : goal.returns
returns c = λ p. did_opener _ _ (rule_of c.args.rule) _ p c.requires.2 c.requires.0 c.put_opener-put.ensures c.finish_segment.ensures
