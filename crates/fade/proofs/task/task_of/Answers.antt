-- How many arguments there are, and whether the one is a text that is known.
use Rattle.std.proofs.Common.{◌≡◌, ℕ, ◌<◌, ◌≤◌, List, [], ◌∷◌, length, get_or, map, refl, arith}
use Rattle.std.proofs.lemmas.Bool.{false_from_ne_true}
use Rattle.std.proofs.lemmas.Slice.Eq.{bytes_eq-Decides}
use Rattle.std.specs.Prelude.{bytes_eq, codes, string_bytes}
use Rattle.fade.specs.declared.task.Task.TheVariants.{AnswerInput, Usage}
use Rattle.fade.specs.Task.{task_of}
use Rattle.fade.proofs.task.task_of.Goals as goal
use Rattle.fade.proofs.task.task_of.Goals.{After-as_str}

module _ {X : Type 0} (bytes_of : X → List ℕ) where
  none : (xs : List X) → length xs < 1 → AnswerInput ≡ task_of (map bytes_of xs)
  none [] h = refl
  none (x ∷ xs) h = absurd (omega arith)

  one : (xs : List X) (x : X) → 1 ≤ length xs → length xs < 2 → x ≡ get_or xs 0 x → map bytes_of xs ≡ bytes_of x ∷ []
  one [] x h k e = absurd (omega arith)
  one (y ∷ []) x h k e = rw e refl
  one (y ∷ (z ∷ xs)) x h k e = absurd (omega arith)

  more : (xs : List X) → 2 ≤ length xs → Usage ≡ task_of (map bytes_of xs)
  more [] h = absurd (omega arith)
  more (x ∷ []) h = absurd (omega arith)
  more (x ∷ (y ∷ xs)) h = refl

unknown : (arg : List ℕ) → (arg ≡ codes "--help" → ⊥) → (arg ≡ codes "--version" → ⊥) → Usage ≡ task_of (arg ∷ [])
unknown arg help version =
    let a = false_from_ne_true (bytes_eq arg (codes "--help")) (λ e. help ((bytes_eq-Decides arg (codes "--help")).0 e)) in
    let b = false_from_ne_true (bytes_eq arg (codes "--version")) (λ e. version ((bytes_eq-Decides arg (codes "--version")).0 e)) in
    rw (a, b) refl

-- the one argument, as the code reads it
the_one : (c : After-as_str) → map string_bytes c.args.args.now ≡ string_bytes c.arg-item.result ∷ []
the_one c = one string_bytes c.args.args.now c.arg-item.result c.in-len1.len_at_least c.in-len1.len_below c.arg-item.is

pub returns-in-empty : goal.returns-in-empty
returns-in-empty c = none _ _ c.in-empty.len_below

pub returns-in-text : goal.returns-in-text
returns-in-text c = rw (the_one (goal.at.returns-in-text c).After-as_str, ← c.as_str.ensures.value, c.in-text.is) refl

pub returns-in-text-2 : goal.returns-in-text-2
returns-in-text-2 c = rw (the_one (goal.at.returns-in-text-2 c).After-as_str, ← c.as_str.ensures.value, c.in-text-2.is) refl

pub returns-in_default-as_str : goal.returns-in_default-as_str
returns-in_default-as_str c = rw (the_one (goal.at.returns-in_default-as_str c).After-as_str, ← c.as_str.ensures.value) (unknown c.as_str.result.now c.in_default-as_str.not-text c.in_default-as_str.not-text-2)

pub returns-in_default : goal.returns-in_default
returns-in_default c = more _ _ c.in_default.len_at_least
