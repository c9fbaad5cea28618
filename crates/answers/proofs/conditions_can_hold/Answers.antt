-- `conditions_can_hold` meets its contract: its pairs are computed. Assumes nothing.
use Rattle.answers.specs.Witnesses.{Witnesses}
use Rattle.answers.proofs.Witnesses.{unstarred_pairs, ys, xs, bound, others, nan_pairs, past, slow_taken, on_table, indices, filter_pairs}
use Rattle.answers.proofs.conditions_can_hold.Goals as goal

witnesses : Witnesses
witnesses = record {
  y_whole = ys.0;
  y_other = ys.1;
  x_in = xs.0;
  x_out = xs.1;
  bound_asked = bound.0;
  bound_answers = bound.1;
  bound_ends = bound.2;
  other = others;
  no_other = nan_pairs;
  past_rule = past.0;
  not_past_rule = past.1;
  on_slow = slow_taken;
  tabled = on_table;
  has_inverse = indices.0;
  has_power = indices.1;
  found = filter_pairs;
}

pub returns : goal.returns
returns c = record { witnesses = witnesses; unstarred = unstarred_pairs }
