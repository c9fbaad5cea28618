-- What the program does, by its arguments.
use Rattle.std.specs.Prelude.{ℕ, List, [], ◌∷◌, bytes_eq, if◌then◌else◌, codes}
use Rattle.fade.specs.declared.task.Task.{Task}
use Rattle.fade.specs.declared.task.Task.TheVariants.{AnswerInput, Help, Version, Usage}

-- without an argument it answers standard input; `--help` and `--version` alone print a text; any other argument, or
-- more than one, gets a line of usage
abbrev pub task_of : List (List ℕ) → Task
task_of [] = AnswerInput
task_of (arg ∷ []) =
    if bytes_eq arg (codes "--help") then Help
    else (if bytes_eq arg (codes "--version") then Version else Usage)
task_of (arg ∷ (next ∷ more)) = Usage
