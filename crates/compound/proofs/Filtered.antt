-- What the filter finds, as answers of the table path: where what it found is right, the definition says the same (`by_fast`, `by_slow`, `by_low`, `by_high`, `by_one`). Assumes
-- nothing.
use Rattle.std.proofs.Common.{Some, ◌≡◌}
use lib.Ieee.{Float}
use Rattle.floats.specs.Operations.{◌⊗◌}
use Rattle.special.specs.Special as Special
use Rattle.fast_path.specs.Fast.{compoundf_log2p1_fast}
use Rattle.slow_path.specs.Slow.{compoundf_accurate}
use Rattle.filter.specs.declared.Found.TheVariants.{Fast, Slow, Low, High, One}
use Rattle.filter.specs.Right.{Right}
use Rattle.compound.specs.declared.Route.TheVariants.{Edge as edge, Fast as fast, Slow as slow}
use Rattle.compound.specs.Answer.{Outcome}
use Rattle.compound.specs.Route.{decided, from_logarithm, table_path}

module _ (x y : Float) where
  pub by_fast : (v : Float) → Right (Some (Fast v)) (compoundf_log2p1_fast x ⊗ y) → ◌≡◌ {A = Outcome} (record { via = fast; value = v }) (table_path x y)
  unfolding table_path from_logarithm decided
  by_fast v p = rw (p.inside.above, p.inside.below, p.inside.apart, p.passes, p.narrows)

  pub by_slow : (v : Float) → Right (Some Slow) (compoundf_log2p1_fast x ⊗ y) → v ≡ compoundf_accurate x y → ◌≡◌ {A = Outcome} (record { via = slow; value = v }) (table_path x y)
  unfolding table_path from_logarithm decided
  by_slow v p e = rw (p.inside.above, p.inside.below, p.inside.apart, p.fails, e)

  pub by_low : Right (Some Low) (compoundf_log2p1_fast x ⊗ y) → ◌≡◌ {A = Outcome} (record { via = edge; value = Special.zero }) (table_path x y)
  unfolding table_path from_logarithm
  by_low p = rw p

  pub by_high : Right (Some High) (compoundf_log2p1_fast x ⊗ y) → ◌≡◌ {A = Outcome} (record { via = edge; value = Special.+infinity }) (table_path x y)
  unfolding table_path from_logarithm
  by_high p = rw (p.above, p.beyond)

  pub by_one : Right (Some One) (compoundf_log2p1_fast x ⊗ y) → ◌≡◌ {A = Outcome} (record { via = edge; value = Special.one }) (table_path x y)
  unfolding table_path from_logarithm
  by_one p = rw (p.above, p.below, p.tiny)
