-- Why a line is refused, and nothing can be done with the bytes.
use Rattle.std.proofs.Common.{◌≡◌, ℕ, List, [], Result, Ok, Err, sym, ap, ◌∙◌, subst}
use Rattle.std.specs.Prelude.{IfErr, IfOk}
use Rattle.aq_base.specs.declared.fault.SqlFault.{SqlFault}
use Rattle.aq_base.specs.declared.script.Script.{Script}
use Rattle.aq_first_base.specs.declared.simple.SimpleScript.{SimpleScript}
use Rattle.aq_setup.specs.Setup.{RefusedSetup, setup}
use Rattle.aq_script.specs.Reading.{Reads, HasNoReading, IsRefusedLine, IfRefused}
use Rattle.aq_script.specs.declared.fault.ScriptFault.{ScriptFault}
use Rattle.aq_script.specs.declared.fault.ScriptFault.TheVariants as read
use Rattle.aq_define.specs.Built.{IsSetupFault}
use Rattle.aq_define.specs.declared.building.BuildFault.{BuildFault}
use Rattle.aq_define.specs.declared.building.BuildFault.TheVariants as build
use Rattle.aq_simple.specs.Simple.{Runs, not_built_line}
use Rattle.aqueue.specs.declared.task.Task.{Task}
use Rattle.aqueue.specs.declared.task.Task.TheVariants.{Replay, Check}
use Rattle.aqueue.specs.Answers.{IsSetUp, RunsAs, CanBeDone, CannotBeDone, IsRefusal, not_built}
use Rattle.aqueue.specs.Answers.IsRefusal.{Not_read, Not_set_up, Not_run}
use Rattle.aqueue.specs.Faults.{IfScript, unread, not_set_up}
use Rattle.aqueue.specs.declared.fault.RunFault.{RunFault}
use Rattle.aqueue.specs.declared.fault.RunFault.TheVariants.{NoMemory, Script as Refused}

-- ---- a script with which something can be done is read, and its setup makes a catalog

pub set_up_of : (task : Task) (bytes : List ℕ) → CanBeDone task bytes → (script : Script) × IsSetUp bytes script
set_up_of Replay bytes can = (can.1.script, can.1.is_set_up)
set_up_of Check bytes can = can

-- ---- bytes that are no script

unread_cannot : (bytes : List ℕ) → HasNoReading bytes → (task : Task) → CannotBeDone task bytes
unread_cannot bytes none task can = let found = set_up_of task bytes can in none found.0 found.1.read

pub unread_refused : (bytes : List ℕ) (fault : ScriptFault) → IfRefused fault (IsRefusedLine bytes)
    → IfScript (unread fault) (λ line why. (task : Task) → IsRefusal bytes task line why)
unread_refused bytes read.NoMemory refused = tt
unread_refused bytes (read.Refused line fault) refused = λ task. Not_read task line fault refused

pub unread_none : (bytes : List ℕ) (fault : ScriptFault) → IfRefused fault (λ line why. HasNoReading bytes)
    → IfScript (unread fault) (λ line why. (task : Task) → CannotBeDone task bytes)
unread_none bytes read.NoMemory none = tt
unread_none bytes (read.Refused line fault) none = unread_cannot bytes none

module _ (bytes : List ℕ) (script : Script) (reads : Reads bytes script) where
  -- ---- a setup that is refused

  pub setup_refused : (fault : BuildFault) → IsSetupFault (setup [] script) fault → IfScript (not_set_up fault) (λ line why. (task : Task) → IsRefusal bytes task line why)
  unfolding IsSetupFault
  setup_refused build.NoMemory refused = tt
  setup_refused (build.Setup line fault) refused = λ task. Not_set_up task script (record { line = line; fault = fault }) reads refused

  module _ (once : (a b : Script) → Reads bytes a → Reads bytes b → a ≡ b) where
    -- the setup of the bytes' script
    setup_is : (other : Script) (is : IsSetUp bytes other) → setup [] script ≡ Ok is.catalog
    setup_is other is = ap (λ (s : Script). setup [] s) (once script other reads is.read) ∙ is.sets_up

    refused_cannot : (refused : RefusedSetup) → setup [] script ≡ Err refused → (task : Task) → CannotBeDone task bytes
    refused_cannot refused e task can =
        let found = set_up_of task bytes can in
        let clash : Ok found.1.catalog ≡ Err refused = sym (setup_is found.0 found.1) ∙ e in cc

    pub setup_none : (fault : BuildFault) → IsSetupFault (setup [] script) fault → IfScript (not_set_up fault) (λ line why. (task : Task) → CannotBeDone task bytes)
    unfolding IsSetupFault
    setup_none build.NoMemory refused = tt
    setup_none (build.Setup line fault) refused = refused_cannot (record { line = line; fault = fault }) refused

-- ---- a script that leaves what runs

module _ (bytes : List ℕ) (script : Script) (is : IsSetUp bytes script) where
  not_run_at : (line : ℕ) (fault : SqlFault) → ((simple : SimpleScript) → Runs script simple → ⊥) → line ≡ not_built_line script → fault ≡ not_built → IsRefusal bytes Replay line fault
  not_run_at line fault none first why =
      subst (λ (n : ℕ). IsRefusal bytes Replay n fault) (sym first) (subst (λ (f : SqlFault). IsRefusal bytes Replay (not_built_line script) f) (sym why) (Not_run script is none))

  fault_is_refusal : (fault : RunFault) → IfScript fault (λ line why. (line ≡ not_built_line script) × (why ≡ not_built))
      → IfScript fault (λ line why. (simple : SimpleScript) → Runs script simple → ⊥) → IfScript fault (IsRefusal bytes Replay)
  fault_is_refusal NoMemory said none = tt
  fault_is_refusal (Refused line fault) said none = not_run_at line fault none said.0 said.1

  pub run_refused : (result : Result SimpleScript RunFault) → IfErr result (λ fault. IfScript fault (λ line why. (line ≡ not_built_line script) × (why ≡ not_built)))
      → IfErr result (λ fault. IfScript fault (λ line why. (simple : SimpleScript) → Runs script simple → ⊥)) → IfErr result (λ fault. IfScript fault (IsRefusal bytes Replay))
  run_refused (Ok simple) said none = tt
  run_refused (Err fault) said none = fault_is_refusal fault said none

  pub run_found : (result : Result SimpleScript RunFault) → IfOk result (λ simple. Runs script simple) → IfOk result (RunsAs bytes)
  run_found (Ok simple) runs = record { script = script; is_set_up = is; runs = runs }
  run_found (Err fault) runs = tt

  module _ (once : (a b : Script) → Reads bytes a → Reads bytes b → a ≡ b) where
    has_no_run : ((simple : SimpleScript) → Runs script simple → ⊥) → CannotBeDone Replay bytes
    has_no_run none can =
        let run : RunsAs bytes can.0 = can.1 in
        let same : run.script ≡ script = once run.script script run.is_set_up.read is.read in
        none can.0 (subst (λ (s : Script). Runs s can.0) same run.runs)

    fault_has_no_run : (fault : RunFault) → IfScript fault (λ line why. (simple : SimpleScript) → Runs script simple → ⊥) → IfScript fault (λ line why. CannotBeDone Replay bytes)
    fault_has_no_run NoMemory none = tt
    fault_has_no_run (Refused line fault) none = has_no_run none

    pub run_none : (result : Result SimpleScript RunFault) → IfErr result (λ fault. IfScript fault (λ line why. (simple : SimpleScript) → Runs script simple → ⊥))
        → IfErr result (λ fault. IfScript fault (λ line why. CannotBeDone Replay bytes))
    run_none (Ok simple) none = tt
    run_none (Err fault) none = fault_has_no_run fault none

-- ---- what is so for every task is so for one

pub for_task : (task : Task) (bytes : List ℕ) (fault : RunFault) → IfScript fault (λ line why. (t : Task) → IsRefusal bytes t line why) → IfScript fault (IsRefusal bytes task)
for_task task bytes NoMemory all = tt
for_task task bytes (Refused line fault) all = all task

pub cannot_task : (task : Task) (bytes : List ℕ) (fault : RunFault) → IfScript fault (λ line why. (t : Task) → CannotBeDone t bytes) → IfScript fault (λ line why. CannotBeDone task bytes)
cannot_task task bytes NoMemory all = tt
cannot_task task bytes (Refused line fault) all = all task
