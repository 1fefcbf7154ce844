use Rattle.std.specs.Prelude.{Bool, ℕ}
use Rattle.format.specs.Spec.{Loop}
use Rattle.tree.specs.Parts.{TestsLoops}
use Rattle.tree.proofs.ByNumber.{Upto, Asked}
use Rattle.tree.proofs.loops.Loops.some.Given as goal

abbrev pub invariant-loop-k : goal.invariant-loop-k
invariant-loop-k g l = ((f : ℕ → Loop → Bool) → TestsLoops l.self.section.bytes.now l.self.section.end l.self.at (goal.T-post g l.test) f → Upto l.self.section.bytes.now l.self.section.end l.self.at f l.n l.k) × Asked l.self.section.bytes.now l.self.section.end l.self.at (goal.T-post g l.test) l.k
