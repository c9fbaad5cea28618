-- Document 01: "six tallies (the five routes and `bad`)", which "count them by route or as bad", over the lines.
use Rattle.std.specs.Prelude.{◌+◌, ◌≡◌, Bool, true, false, List, [], ◌∷◌, count_by}
use Rattle.special.specs.Special.{zero}
use Rattle.compound.specs.declared.Route.{Route}
use Rattle.compound.specs.declared.Route.TheVariants.{Rule as rule, Whole as whole, Edge as edge, Fast as fast}
use Rattle.compound.specs.declared.Route.TheVariants.{Slow as slow}
use Rattle.replies.specs.Reply.{Reply, answer, bad}
use Rattle.state.specs.declared.Tallies.{Tallies}
use Rattle.state.specs.Holding.{zero_tallies}

-- whether two routes are the same
abbrev pub same_route : Route → Route → Bool
same_route rule rule = true
same_route whole whole = true
same_route edge edge = true
same_route fast fast = true
same_route slow slow = true
same_route _ _ = false

-- whether a line is answered, by a route; and whether it is bad
abbrev pub is_via : Route → Reply → Bool
is_via route (answer d o) = same_route route o.via
is_via route (bad n) = false

abbrev pub is_bad : Reply → Bool
is_bad (answer d o) = false
is_bad (bad n) = true

-- the tallies t, and what the replies of a list add to them: "by route or as bad"
unfoldable pub tallies_with : Tallies → List Reply → Tallies
tallies_with t rs =
    record {
      rule = t.rule + count_by (is_via rule) rs;
      whole = t.whole + count_by (is_via whole) rs;
      edge = t.edge + count_by (is_via edge) rs;
      fast = t.fast + count_by (is_via fast) rs;
      slow = t.slow + count_by (is_via slow) rs;
      bad = t.bad + count_by is_bad rs;
    }

-- the tallies of a list of replies alone
abbrev pub tallies_of : List Reply → Tallies
tallies_of rs = tallies_with zero_tallies rs

-- one line that is answered by a route
abbrev pub one_via : Route → List Reply
one_via route = answer 0 (record { via = route; value = zero }) ∷ []

-- Each counts in the tally of its route's name, and a bad line in `bad`.
pub record EachTally : Type 0 where
  pub rule_line : tallies_of (one_via rule) ≡ record { rule = 1; whole = 0; edge = 0; fast = 0; slow = 0; bad = 0 }
  pub whole_line : tallies_of (one_via whole) ≡ record { rule = 0; whole = 1; edge = 0; fast = 0; slow = 0; bad = 0 }
  pub edge_line : tallies_of (one_via edge) ≡ record { rule = 0; whole = 0; edge = 1; fast = 0; slow = 0; bad = 0 }
  pub fast_line : tallies_of (one_via fast) ≡ record { rule = 0; whole = 0; edge = 0; fast = 1; slow = 0; bad = 0 }
  pub slow_line : tallies_of (one_via slow) ≡ record { rule = 0; whole = 0; edge = 0; fast = 0; slow = 1; bad = 0 }
  pub bad_line : tallies_of (bad 1 ∷ []) ≡ record { rule = 0; whole = 0; edge = 0; fast = 0; slow = 0; bad = 1 }
