-- What the kinds of answer rule out.
use Rattle.std.proofs.Common.{◌≡◌, ℕ, ◌<◌, ◌≤◌, true, false, List, [], ◌∷◌, length, Option, Some, None, refl, sym, ap, subst, ◌∙◌, arith, Result, Ok, Err}
use Rattle.std.specs.Prelude.{IfSome, IfOk, is_some}
use Rattle.std.specs.Io.KnownBytes.{Appends}
use Rattle.aq_base.specs.Names.{Text}
use Rattle.aqueue.specs.declared.task.Task.{Task}
use Rattle.aqueue.specs.declared.task.Task.TheVariants.{Replay, Check}
use Rattle.aqueue.specs.Answers.{task_of, is_task, script_limit, usage_line, too_long_line, refusal_line, CanBeDone, CannotBeDone, IsDone, IsRefusal, IsAnswer, WroteDone, WroteRefusal, is_one_of}
use Rattle.aq_base.specs.declared.fault.SqlFault.{SqlFault}
use Rattle.aqueue.specs.Outcomes.{OutcomeCases}
use Rattle.aqueue.specs.declared.program.Outcome.{Outcome}
use Rattle.aqueue.specs.declared.program.Outcome.TheVariants.{Writes, ReadFailed}
use Rattle.aqueue.specs.Answers.IsAnswer.{Usage, Too_long, Refused, Done}

none_is_no_task : (words : List Text) (task : Task) → task_of words ≡ None → task_of words ≡ Some task → ⊥
none_is_no_task words task none is = let e : None ≡ Some task = sym none ∙ is in cc

pub task_is_there : (words : List Text) (task : Task) → task_of words ≡ Some task → is_task words ≡ true
task_is_there words task is = ap (λ (o : Option Task). is_some o) is

same_task : (words : List Text) (a b : Task) → task_of words ≡ Some a → task_of words ≡ Some b → a ≡ b
same_task words a b is also = let e : Some a ≡ Some b = sym is ∙ also in cc

-- a fact of the bytes that are told
told : (input : Option (List ℕ)) (bytes : List ℕ) (P : List ℕ → Type 0) → input ≡ Some bytes → IfSome input P → P bytes
told input bytes P e h = let at : IfSome (Some bytes) P = subst (λ o. IfSome o P) e h in at

what_of : (input : Option (List ℕ)) (task : Task) (number : ℕ) (fault : SqlFault) → IfSome input (λ bytes. (length bytes ≤ script_limit) × IsRefusal bytes task number fault × CannotBeDone task bytes)
    → IfSome input (λ bytes. IsRefusal bytes task number fault × CannotBeDone task bytes)
what_of None task number fault h = tt
what_of (Some bytes) task number fault h = (h.1, h.2)

-- something is done only where it can be
done_can_be : (task : Task) (bytes : List ℕ) (output : Text) → IsDone task bytes output → CanBeDone task bytes
done_can_be Replay bytes output done = (done.simple, done.runs)
done_can_be Check bytes output done = (done.script, done.is_set_up)

-- the statuses of the faults of the source, of the sink and of memory are none of them
pub no_answer : (words : List Text) (input : Option (List ℕ)) (status other : ℕ) (output : Text) → IsAnswer words input status output → is_one_of (4 ∷ 5 ∷ 6 ∷ []) other ≡ true → status ≡ other → ⊥
no_answer words input status other output (Usage ws i u) none e = let at : is_one_of (4 ∷ 5 ∷ 6 ∷ []) 1 ≡ true = ap (is_one_of (4 ∷ 5 ∷ 6 ∷ [])) e ∙ none in cc
no_answer words input status other output (Too_long ws i r l) none e = let at : is_one_of (4 ∷ 5 ∷ 6 ∷ []) 7 ≡ true = ap (is_one_of (4 ∷ 5 ∷ 6 ∷ [])) e ∙ none in cc
no_answer words input status other output (Refused ws i task n f r l) none e = let at : is_one_of (4 ∷ 5 ∷ 6 ∷ []) 2 ≡ true = ap (is_one_of (4 ∷ 5 ∷ 6 ∷ [])) e ∙ none in cc
no_answer words input status other output (Done ws i task t r l) none e = let at : is_one_of (4 ∷ 5 ∷ 6 ∷ []) 0 ≡ true = ap (is_one_of (4 ∷ 5 ∷ 6 ∷ [])) e ∙ none in cc

pub known_status : (words : List Text) (input : Option (List ℕ)) (status : ℕ) (output : Text) → IsAnswer words input status output → is_one_of (0 ∷ 1 ∷ 2 ∷ 4 ∷ 5 ∷ 6 ∷ 7 ∷ []) status ≡ true
known_status words input status output (Usage ws i u) = refl
known_status words input status output (Too_long ws i r l) = refl
known_status words input status output (Refused ws i task n f r l) = refl
known_status words input status output (Done ws i task t r l) = refl

pub usage_holds : (words : List Text) (input : Option (List ℕ)) (status : ℕ) (output : Text) → IsAnswer words input status output → status ≡ 1
    → (task_of words ≡ None) × (output ≡ usage_line)
usage_holds words input status output (Usage ws i u) e = (u, refl)
usage_holds words input status output (Too_long ws i r l) e = absurd (omega arith)
usage_holds words input status output (Refused ws i task n f r l) e = absurd (omega arith)
usage_holds words input status output (Done ws i task t r l) e = absurd (omega arith)

pub too_long_holds : (words : List Text) (input : Option (List ℕ)) (status : ℕ) (output : Text) → IsAnswer words input status output → status ≡ 7
    → (is_task words ≡ true) × IfSome input (λ bytes. script_limit < length bytes) × (output ≡ too_long_line)
too_long_holds words input status output (Usage ws i u) e = absurd (omega arith)
too_long_holds words input status output (Too_long ws i r l) e = (r, l, refl)
too_long_holds words input status output (Refused ws i task n f r l) e = absurd (omega arith)
too_long_holds words input status output (Done ws i task t r l) e = absurd (omega arith)

-- bytes that are too many are answered so
pub long_answer : (words : List Text) (input : Option (List ℕ)) (status : ℕ) (output : Text) (bytes : List ℕ) → IsAnswer words input status output → is_task words ≡ true
    → input ≡ Some bytes → script_limit < length bytes → is_one_of (4 ∷ 5 ∷ 6 ∷ 7 ∷ []) status ≡ true
long_answer words input status output bytes (Usage ws i u) is e long = let clash : false ≡ true = sym (ap (λ (o : Option Task). is_some o) u) ∙ is in absurd cc
long_answer words input status output bytes (Too_long ws i r l) is e long = refl
long_answer words input status output bytes (Refused ws i task n f r l) is e long =
    let short : length bytes ≤ script_limit = (told input bytes (λ bs. (length bs ≤ script_limit) × IsRefusal bs task n f × CannotBeDone task bs) e l).0 in absurd (omega arith)
long_answer words input status output bytes (Done ws i task t r l) is e long =
    let short : length bytes ≤ script_limit = (told input bytes (λ bs. (length bs ≤ script_limit) × IsDone task bs output) e l).0 in absurd (omega arith)

-- what the answer says where the sink took all of it: of what is done, and of a refusal
written_of : (input written after : Option (List ℕ)) (task : Task) (output : Text) → Appends written after output
    → IfSome input (λ bytes. (length bytes ≤ script_limit) × IsDone task bytes output)
    → IfSome input (λ bytes. (length bytes ≤ script_limit) × ((text : Text) × IsDone task bytes text × Appends written after text))
written_of None written after task output took done = tt
written_of (Some bytes) written after task output took done = (done.0, (output, done.1, took))

pub done_holds : (words : List Text) (input written after : Option (List ℕ)) (status : ℕ) (output : Text) → IsAnswer words input status output
    → Appends written after output → status ≡ 0 → WroteDone words input written after
done_holds words input written after status output (Usage ws i u) took e = absurd (omega arith)
done_holds words input written after status output (Too_long ws i r l) took e = absurd (omega arith)
done_holds words input written after status output (Refused ws i task number fault r l) took e = absurd (omega arith)
done_holds words input written after status output (Done ws i task t r l) took e = (task, r, written_of input written after task output took l)

pub refusal_holds : (words : List Text) (input written after : Option (List ℕ)) (status : ℕ) (output : Text) → IsAnswer words input status output
    → Appends written after output → status ≡ 2 → WroteRefusal words input written after
refusal_holds words input written after status output (Usage ws i u) took e = absurd (omega arith)
refusal_holds words input written after status output (Too_long ws i r l) took e = absurd (omega arith)
refusal_holds words input written after status output (Refused ws i task number fault r l) took e =
    (task, r, (number, (fault, what_of input task number fault l, took)))
refusal_holds words input written after status output (Done ws i task t r l) took e = absurd (omega arith)

-- bytes with which it can't be done are refused
pub refused_answer : (words : List Text) (input : Option (List ℕ)) (status : ℕ) (output : Text) (task : Task) (bytes : List ℕ) → IsAnswer words input status output
    → task_of words ≡ Some task → input ≡ Some bytes → length bytes ≤ script_limit → CannotBeDone task bytes → is_one_of (2 ∷ 4 ∷ 5 ∷ 6 ∷ []) status ≡ true
refused_answer words input status output task bytes (Usage ws i u) is e short none = absurd (none_is_no_task words task u is)
refused_answer words input status output task bytes (Too_long ws i r l) is e short none =
    let long : script_limit < length bytes = told input bytes (λ bs. script_limit < length bs) e l in absurd (omega arith)
refused_answer words input status output task bytes (Refused ws i other n f r l) is e short none = refl
refused_answer words input status output task bytes (Done ws i other t r l) is e short none =
    let done : IsDone other bytes output = (told input bytes (λ bs. (length bs ≤ script_limit) × IsDone other bs output) e l).1 in
    let can : CanBeDone task bytes = subst (λ (t : Task). CanBeDone t bytes) (same_task words other task r is) (done_can_be other bytes output done) in
    absurd (none can)

-- bytes with which it can be done are answered with its text
pub done_answer : (words : List Text) (input : Option (List ℕ)) (status : ℕ) (output : Text) (task : Task) (bytes : List ℕ) → IsAnswer words input status output
    → task_of words ≡ Some task → input ≡ Some bytes → length bytes ≤ script_limit → CanBeDone task bytes → is_one_of (0 ∷ 6 ∷ []) status ≡ true
done_answer words input status output task bytes (Usage ws i u) is e short can = absurd (none_is_no_task words task u is)
done_answer words input status output task bytes (Too_long ws i r l) is e short can =
    let long : script_limit < length bytes = told input bytes (λ bs. script_limit < length bs) e l in absurd (omega arith)
done_answer words input status output task bytes (Refused ws i other n f r l) is e short can =
    let none : CannotBeDone other bytes = (told input bytes (λ bs. (length bs ≤ script_limit) × IsRefusal bs other n f × CannotBeDone other bs) e l).2 in
    absurd (none (subst (λ (t : Task). CanBeDone t bytes) (same_task words task other is r) can))
done_answer words input status output task bytes (Done ws i other t r l) is e short can = refl

-- what is so of each list of bytes that the input may have told
pub all_told : (input : Option (List ℕ)) (P : List ℕ → Type 0) → ((bytes : List ℕ) → input ≡ Some bytes → P bytes) → IfSome input P
all_told None P h = tt
all_told (Some bytes) P h = h bytes refl

-- ---- the answers, for a text that equals theirs

pub usage_answer : (words : List Text) (input : Option (List ℕ)) (output : Text) → task_of words ≡ None → output ≡ usage_line → IsAnswer words input 1 output
usage_answer words input output unknown e = subst (λ t. IsAnswer words input 1 t) (sym e) (Usage words input unknown)

pub too_long_answer : (words : List Text) (input : Option (List ℕ)) (output : Text) → is_task words ≡ true → output ≡ too_long_line
    → IfSome input (λ bytes. script_limit < length bytes) → IsAnswer words input 7 output
too_long_answer words input output is e long = subst (λ t. IsAnswer words input 7 t) (sym e) (Too_long words input is long)

pub refused_bytes_answer : (words : List Text) (task : Task) (bytes : List ℕ) (number : ℕ) (fault : SqlFault) (output : Text) → task_of words ≡ Some task → output ≡ refusal_line number fault
    → length bytes ≤ script_limit → IsRefusal bytes task number fault → CannotBeDone task bytes → IsAnswer words (Some bytes) 2 output
refused_bytes_answer words task bytes number fault output is e short refusal none =
    subst (λ t. IsAnswer words (Some bytes) 2 t) (sym e) (Refused words (Some bytes) task number fault is (short, refusal, none))

-- ---- an input that tells nothing, or these bytes

untold : (words : List Text) (input : Option (List ℕ)) (status : ℕ) (output : Text) → IsAnswer words input status output → IsAnswer words None status output
untold words input status output (Usage ws i u) = Usage words None u
untold words input status output (Too_long ws i r l) = Too_long words None r tt
untold words input status output (Refused ws i task n f r l) = Refused words None task n f r tt
untold words input status output (Done ws i task t r l) = Done words None task output r tt

pub outcome_told : (words : List Text) (input : Option (List ℕ)) (bytes : List ℕ) (before now : ℕ) (o : Outcome) → IfSome input (λ left. bytes ≡ left)
    → OutcomeCases words (Some bytes) before now o → OutcomeCases words input before now o
outcome_told words None bytes before now (Writes status output) e answer = untold words (Some bytes) status output answer
outcome_told words None bytes before now ReadFailed e answer = answer
outcome_told words (Some left) bytes before now o e answer = subst (λ bs. OutcomeCases words (Some bs) before now o) e answer

pub IfOk-follows : {T E : Type 0} (r : Result T E) (P Q : T → Type 0) → ((x : T) → P x → Q x) → IfOk r P → IfOk r Q
IfOk-follows (Ok x) P Q f h = f x h
IfOk-follows (Err e) P Q f h = tt

pub IfSome-follows : {X : Type 0} (o : Option X) (P Q : X → Type 0) → ((x : X) → P x → Q x) → IfSome o P → IfSome o Q
IfSome-follows None P Q f h = tt
IfSome-follows (Some x) P Q f h = f x h
