-- A script that fits the language has a text of its run by the default schedule.
use Rattle.std.proofs.Common.{◌≡◌, ◌≤◌, ◌<◌, ◌^◌, ◌+◌, Bool, true, false, ◌&&◌, leb, List, [], ◌∷◌, length, map, refl, sym, ap, subst, ◌∙◌, arith}
use Rattle.std.specs.List.{list_all}
use Rattle.std.proofs.lemmas.Bool.Decides.{nat_tests}
use Rattle.aq_base.specs.Names.{Text, is_name, all_differ}
use Rattle.aq_first_base.specs.Catalogs.{Catalog}
use Rattle.aq_first_base.specs.Setup.{program_of, catalog_of}
use Rattle.aq_first_base.specs.Scripts.{fits_first_language, session_fits}
use Rattle.aq_first_base.specs.declared.simple.SimpleScript.{SimpleScript}
use Rattle.aq_first_base.specs.declared.simple.SimpleSession.{SimpleSession}
use Rattle.aq_first_run.specs.States.{opening}
use Rattle.aq_first_run.specs.Runs.{Schedule, run, IsSchedule, IsComplete}
use Rattle.aq_first_run.specs.Texts.{text}
use Rattle.aq_first_run.proofs.Running.{CanRunFrom-by_default}
use Rattle.aq_first_run.specs.Told.{TellsSchedule, CanBeTold}
use Rattle.aq_first_run.proofs.Told.{told, schedule_is_told, IsSchedule-told}
use Rattle.aq_first_laws.proofs.Committed.{committed_databases_stand}
use Rattle.aq_first_journal.specs.Journals.{Journal, Finishes}
use Rattle.aqueue.specs.Answers.{IsTextOf}

both_left : (a b : Bool) → (a && b) ≡ true → a ≡ true
both_left true b e = refl
both_left false b e = e

both_right : (a b : Bool) → (a && b) ≡ true → b ≡ true
both_right true b e = e
both_right false b e = absurd cc

names_fit : (cat : Catalog) (sessions : List SimpleSession) → list_all (session_fits cat) sessions ≡ true → list_all is_name (map (λ session. session.name) sessions) ≡ true
names_fit cat [] e = refl
names_fit cat (session ∷ sessions) e =
    let first = both_left (session_fits cat session) (list_all (session_fits cat) sessions) e in
    let later = both_right (session_fits cat session) (list_all (session_fits cat) sessions) e in
    rw (both_left (is_name session.name) _ first, names_fit cat sessions later) refl

-- the parts of the conditions that are wanted here
record Fits (script : SimpleScript) : Type 0 where
  names : list_all is_name (program_of script).names ≡ true
  differ : all_differ (program_of script).names ≡ true
  one_session : length script.sessions ≤ 1

-- one name is no other's
alone_differ : (sessions : List SimpleSession) → leb (length sessions) 1 ≡ true → all_differ (map (λ session. session.name) sessions) ≡ true
alone_differ [] few = refl
alone_differ (session ∷ []) few = refl
alone_differ (session ∷ second ∷ sessions) few = let none : 2 + length sessions ≤ 1 = grind (arith, nat_tests) in absurd (omega arith)

fits : (script : SimpleScript) → fits_first_language script ≡ true → Fits script
fits script e =
    let at_most_rows = both_left _ _ e in
    let no_schedule = both_left _ _ at_most_rows in
    let sessions = both_left _ _ no_schedule in
    let setup = both_left _ _ sessions in
    let few_sessions : leb (length script.sessions) 1 ≡ true = both_right _ _ sessions in
    record {
      names = names_fit (catalog_of script) script.sessions (both_right _ _ setup);
      differ = alone_differ script.sessions few_sessions;
      one_session = grind (arith, nat_tests);
    }

-- a script as it is opened, with no step yet
abbrev pub opened : SimpleScript → Journal
opened script = record { script = script; state = opening (program_of script); schedule = [] }

pub finished_text : (script : SimpleScript) (after : Journal) (output : Text) → fits_first_language script ≡ true → Finishes (opened script) after
    → length after.schedule < 2 ^ 64 → output ≡ text (program_of after.script) after.schedule → IsTextOf script output
finished_text script after output e finishes short printed =
    let goes = finishes.goes_on in
    let later : Schedule = goes.later in
    let fit = fits script e in
    let out_is : output ≡ text (program_of script) later =
    printed ∙ ap (λ s. text (program_of s) after.schedule) goes.same_script ∙ ap (λ (w : Schedule). text (program_of script) w) goes.schedule in
    let complete : IsComplete (program_of script) later =
    subst (λ s. IsComplete (program_of s) later) goes.same_script (subst (λ (w : Schedule). IsComplete (program_of after.script) w) goes.schedule finishes.complete) in
    let can_run : IsSchedule (program_of script) later = CanRunFrom-by_default (program_of script) (opening (program_of script)) later goes.by_default in
    let tells : TellsSchedule (program_of script).names output later =
    subst (λ (t : Text). TellsSchedule (program_of script).names t later) (sym out_is) (told (program_of script) (run (program_of script) later) later fit.names) in
    let below : length later < 2 ^ 64 = subst (λ (w : Schedule). length w < 2 ^ 64) goes.schedule short in
    let can : CanBeTold (program_of script).names later = IsSchedule-told script later can_run (omega arith) in
    record {
      schedule = later;
      by_default = record { by_default = goes.by_default; complete = complete };
      printed = out_is;
      told = tells;
      only = λ other can_be_told told_too. schedule_is_told (program_of script).names fit.names fit.differ output other later can_be_told can told_too tells;
      complete = complete;
      stand = committed_databases_stand script later fit.one_session can_run;
    }
