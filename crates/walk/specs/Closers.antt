-- A law of closers: what they count (docs/RULES.md, "Closers").
use Rattle.std.specs.Prelude.{ℕ, ◌≡◌, true, false, ◌&&◌, List, [], ◌∷◌, ◌++◌}
use Rattle.nest.specs.Outline.{Outline, loop_of}
use Rattle.walk.specs.Instances.{Context}
use Rattle.walk.specs.Tour.{Step, enters, closer, segments_in, body_steps, opened, children, instance_steps}

-- `inner` gives the instances of the loops one level down, `below` their steps
pub record CloserCounts : Type 0 where
  -- an instance of a loop with `end` and `control` ends with its closer; that tells how many child instances it has, and how many segments the
  -- instance wrote, the closer one of them
  pub closed : (j : Outline) (l : ℕ) (c : Context) (inner : ℕ → Context → List Context) (below : ℕ → Context → List Step)
      → (loop_of j l).ends ≡ true → (loop_of j l).controlled ≡ true
      → instance_steps inner below j l c
      ≡ enters l ∷ body_steps below j l c ++ (closer l (opened j l) (children inner j l c) (segments_in (instance_steps inner below j l c)) ∷ [])
  -- any other has none
  pub open_ended : (j : Outline) (l : ℕ) (c : Context) (inner : ℕ → Context → List Context) (below : ℕ → Context → List Step)
      → ((loop_of j l).ends && (loop_of j l).controlled) ≡ false → instance_steps inner below j l c ≡ enters l ∷ body_steps below j l c
