use Rattle.std.proofs.Common.{rules, ◌≡◌, ◌∷◌, ◌++◌, [], codes, true, false, Err, sym, subst}
use Rattle.aq_grammar.specs.Terminals.{Keyword, begins}
use Rattle.aq_grammar.specs.Bodies.{condition, conditions}
use Rattle.aq_grammar.proofs.Loops.{gives_fault}
use Rattle.aq_parse.specs.Bodies.{or_condition}
use Rattle.aq_parse.proofs.Blocks.{AreSome, some_begin, some_go_on, some_fail_first, some_fail, some_end, or_condition_is_shorter}
use Rattle.aq_parse.proofs.conditions.conditions.Goals as goal

pub returns-in_err-first : goal.returns-in_err-first
unfolding conditions
returns-in_err-first c =
    let is_fault : c.from_residual.result ≡ Err c.in_err-first.field-0.0 = search rules in
    gives_fault (λ x. x) c.from_residual.result c.in_err-first.field-0.0 _ is_fault
    (some_fail_first (Keyword (codes "or")) condition or_condition c.in_err-first.field-0.0 c.args.tokens.now c.in_err-first.ensures)

pub conditions-init : goal.conditions-init
conditions-init c =
    let pushed : c.push.new.self ≡ c.in_ok-first.first ∷ [] = search rules in
    subst (λ found. AreSome (Keyword (codes "or")) condition or_condition c.args.tokens.now c.in_ok-first.rest found) (sym pushed)
    (some_begin (Keyword (codes "or")) condition or_condition c.args.tokens.now c.in_ok-first.rest c.in_ok-first.first c.in_ok-first.ensures)

pub returns-in_err-next : goal.returns-in_err-next
unfolding conditions
returns-in_err-next c =
    let is_fault : c.from_residual-in_err-next.result ≡ Err c.in_err-next.field-0.0 = search rules in
    let begun : begins ((Keyword (codes "or")) ∷ []) c.conditions.rest ≡ true = search rules in
    gives_fault (λ x. x) c.from_residual-in_err-next.result c.in_err-next.field-0.0 _ is_fault
    (some_fail (Keyword (codes "or")) condition or_condition c.in_err-next.field-0.0 c.args.tokens.now c.conditions.rest c.conditions.found c.conditions.invariant begun c.in_err-next.ensures)

pub conditions-preserved : goal.conditions-preserved
conditions-preserved c =
    let begun : begins ((Keyword (codes "or")) ∷ []) c.conditions.rest ≡ true = search rules in
    let pushed : c.push-in-conditions.new.self ≡ c.conditions.found ++ c.in_ok-next.next ∷ [] = search rules in
    subst (λ found. AreSome (Keyword (codes "or")) condition or_condition c.args.tokens.now c.in_ok-next.after found) (sym pushed)
    (some_go_on (Keyword (codes "or")) condition or_condition c.args.tokens.now c.conditions.rest c.in_ok-next.after c.conditions.found c.in_ok-next.next c.conditions.invariant begun c.in_ok-next.ensures
    (or_condition_is_shorter c.conditions.rest c.in_ok-next.after c.in_ok-next.next c.in_ok-next.ensures))

pub conditions-smaller : goal.conditions-smaller
conditions-smaller c = or_condition_is_shorter c.conditions.rest c.in_ok-next.after c.in_ok-next.next c.in_ok-next.ensures

pub returns : goal.returns
unfolding conditions
returns c =
    let ended : begins ((Keyword (codes "or")) ∷ []) c.conditions.rest ≡ false = search rules in
    some_end (Keyword (codes "or")) condition or_condition c.args.tokens.now c.conditions.rest c.conditions.found c.conditions.invariant ended
