-- The lists of words that are commands.
use Rattle.std.specs.Prelude.{ℕ, zero, suc, ◌+◌, Bool, true, false, List, [], ◌∷◌, codes, drop, Option, Some, None, if◌then◌else◌, find, option_map, nat_eq}
use Rattle.std.specs.Fmt.{decimal}
use Rattle.std.specs.List.{starts_with}
use Rattle.aq_base.specs.Names.{Text, same_text}
use Rattle.aq_words.specs.declared.command.Command.{Command}
use Rattle.aq_words.specs.declared.command.Command.TheVariants.{Run, Replay, Check, Drill}

-- `--trace`, or nothing
abbrev pub trace_of : List Text → Option Bool
trace_of [] = Some false
trace_of (word ∷ []) = if same_text word (codes "--trace") then Some true else None
trace_of (word ∷ second ∷ others) = None

-- so many numbers from the first on
unfoldable pub numbers_from : ℕ → ℕ → List ℕ
numbers_from first zero = []
numbers_from first (suc count) = first ∷ numbers_from (first + 1) count

-- a number from 1 to 2000, in decimal without sign or leading zero
abbrev pub rows_number : Text → Option ℕ
rows_number text = find (λ n. same_text text (decimal n)) (numbers_from 1 2000)

-- `--rows N`, or `--rows=N`
abbrev pub rows_of : List Text → Option ℕ
rows_of [] = None
rows_of (word ∷ []) = if starts_with nat_eq word (codes "--rows=") then rows_number (drop 7 word) else None
rows_of (option ∷ number ∷ []) = if same_text option (codes "--rows") then rows_number number else None
rows_of (option ∷ number ∷ third ∷ others) = None

abbrev pub check_of : List Text → Option Command
check_of [] = Some Check
check_of (word ∷ others) = None

abbrev pub command_of : List Text → Option Command
command_of [] = None
command_of (word ∷ others) =
    if same_text word (codes "run")
    then option_map Run (trace_of others)
    else (if same_text word (codes "replay")
    then option_map Replay (trace_of others)
    else (if same_text word (codes "check")
    then check_of others
    else (if same_text word (codes "drill") then option_map Drill (rows_of others) else None)))
