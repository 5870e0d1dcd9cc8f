use Rattle.std.proofs.Common.{◌≡◌, ◌++◌, Some, None, sym, ap, ◌∙◌, arith, append_assoc}
use Rattle.std.specs.List.{find}
use Rattle.std.specs.Option.{option_map}
use Rattle.std.proofs.lemmas.List.{append-nil}
use Rattle.aq_base.specs.Cycles.{is_in}
use Rattle.aq_xids.specs.Sets.{members}
use Rattle.aq_xids.specs.declared.SessNo.{SessNo}
use Rattle.aq_waits.specs.Edges.{set_at, firsts}
use Rattle.aq_waits.proofs.Steps_up.{way_more, way_ends}
use Rattle.aq_waits.proofs.cycle.cycle_along.Goals as goal

pub returns-in_default : goal.returns-in_default
returns-in_default c =
    let room = c.waits.invariant.room in
    let none : find (is_in (members (set_at c.args.layers.now c.waits.left))) (members c.waits.from.0) ≡ None =
    sym c.first_common.ensures.first ∙ ap (option_map (λ (s : SessNo). s.0)) c.in_default.is in
    let ends = way_ends c.args.edges.now c.args.goal.0 c.args.layers.now c.waits.left (members c.waits.from.0) c.requires.layers (omega arith) (omega arith) none in
    sym (append-nil (firsts c.waits.len c.waits.items)) ∙ (ap (λ ns. firsts c.waits.len c.waits.items ++ ns) (sym ends) ∙ c.waits.invariant.whole)

pub waits-preserved : goal.waits-preserved
waits-preserved c =
    let found : find (is_in (members (set_at c.args.layers.now c.waits.left))) (members c.waits.from.0) ≡ Some c.in-Some.next.0 =
    sym c.first_common.ensures.first ∙ ap (option_map (λ (s : SessNo). s.0)) c.in-Some.is in
    let more = way_more c.args.edges.now c.args.goal.0 c.args.layers.now c.waits.left (members c.waits.from.0) c.in-Some.next.0 c.requires.layers (omega arith) (omega arith) found in
    record {
      started = omega arith;
      room = omega arith;
      whole = rw (c.write_at.ensures, c.set_of-from.ensures, append_assoc) (ap (λ ns. firsts c.waits.len c.waits.items ++ ns) (sym more) ∙ c.waits.invariant.whole);
    }
