-- When what the filter finds is right, for t = l×y as the fast path has it: each case says what document 01, "Table
-- path", makes of t.
use Rattle.std.specs.Prelude.{◌≡◌, true, false, Option, Some, None, Float}
use Rattle.floats.specs.Narrowing.{narrowed}
use Rattle.fast_path.specs.Edges.{gives_zero, gives_infinity, gives_one}
use Rattle.fast_path.specs.Fast.{exp2_fast}
use Rattle.filter.specs.declared.Found.{Found}
use Rattle.filter.specs.declared.Found.TheVariants.{Fast, Slow, Low, High, One}

-- t is at no edge
pub record Inside (t : Float) : Type 0 where
  pub above : gives_zero t ≡ false
  pub below : gives_infinity t ≡ false
  pub apart : gives_one t ≡ false

-- the fast path passes its tests with a value that narrows to v
pub record Passed (v t : Float) : Type 0 where
  pub inside : Inside t
  pub value : Float
  pub passes : exp2_fast t ≡ Some value
  pub narrows : narrowed value ≡ v

-- it fails them
pub record Fails (t : Float) : Type 0 where
  pub inside : Inside t
  pub fails : exp2_fast t ≡ None

-- t is at the edge of 1
pub record AtOne (t : Float) : Type 0 where
  pub above : gives_zero t ≡ false
  pub below : gives_infinity t ≡ false
  pub tiny : gives_one t ≡ true

-- t is at the upper edge
pub record AtInfinity (t : Float) : Type 0 where
  pub above : gives_zero t ≡ false
  pub beyond : gives_infinity t ≡ true

-- each case; `None` says nothing
abbrev pub Right : Option Found → Float → Type 0
Right (Some (Fast v)) t = Passed v t
Right (Some Slow) t = Fails t
Right (Some Low) t = gives_zero t ≡ true
Right (Some High) t = AtInfinity t
Right (Some One) t = AtOne t
Right None t = Unit {0}
