use Rattle.std.proofs.Common.{rules, ◌≡◌, ◌∷◌, ◌++◌, [], true, refl, sym, subst, Err}
use Rattle.aq_grammar.specs.Terminals.{PlainName, begins}
use Rattle.aq_grammar.specs.Reading.{Read}
use Rattle.aq_grammar.specs.Nonterminals.{reads}
use Rattle.aq_grammar.specs.Steps.{Fails}
use Rattle.aq_grammar.proofs.Loops.{Stands, gives_fault, many_begin, goes_on_with, fails_with, some_tokens}
use Rattle.aq_script.specs.Sections.{item, items}
use Rattle.aq_script.proofs.Shorter.{item_is_shorter}
use Rattle.aq_script.proofs.items.items.Goals as goal

pub items-init : goal.items-init
items-init c =
    let none : c.new-found.result ≡ [] = c.new-found.ensures in
    let same : c.copied-rest.result ≡ c.args.tokens.now = c.copied-rest.ensures in
    subst (λ found. Stands (PlainName ∷ []) [] (reads item) found c.copied-rest.result (reads items c.args.tokens.now)) (sym none)
    (subst (λ tokens. Stands (PlainName ∷ []) [] (reads item) [] c.copied-rest.result (reads items tokens)) same
    (many_begin (PlainName ∷ []) [] (reads item) c.copied-rest.result))

pub returns-in_err-next : goal.returns-in_err-next
returns-in_err-next c =
    let is_fault : c.from_residual.result ≡ Err c.in_err-next.field-0.0 = search rules in
    let begun : begins (PlainName ∷ []) c.items.rest ≡ true = search rules in
    let fails : Fails c.in_err-next.field-0.0 (reads item c.items.rest) = c.in_err-next.ensures in
    gives_fault (λ x. x) c.from_residual.result c.in_err-next.field-0.0 _ is_fault
    (fails_with (PlainName ∷ []) [] (reads item) c.in_err-next.field-0.0 c.items.found c.items.rest _
    (some_tokens (PlainName ∷ []) [] (reads item) c.items.rest begun) c.items.invariant refl begun fails)

pub items-smaller : goal.items-smaller
items-smaller c =
    let read : reads item c.items.rest ≡ Read c.in_ok-next.next c.in_ok-next.behind = c.in_ok-next.ensures in
    item_is_shorter c.items.rest c.in_ok-next.behind c.in_ok-next.next read

pub items-preserved : goal.items-preserved
items-preserved c =
    let begun : begins (PlainName ∷ []) c.items.rest ≡ true = search rules in
    let read : reads item c.items.rest ≡ Read c.in_ok-next.next c.in_ok-next.behind = c.in_ok-next.ensures in
    let pushed : c.push.new.self ≡ c.items.found ++ c.in_ok-next.next ∷ [] = search rules in
    subst (λ found. Stands (PlainName ∷ []) [] (reads item) found c.in_ok-next.behind (reads items c.args.tokens.now)) (sym pushed)
    (goes_on_with (PlainName ∷ []) [] (reads item) c.items.found c.items.rest c.in_ok-next.behind c.in_ok-next.next _
    (item_is_shorter c.items.rest c.in_ok-next.behind c.in_ok-next.next read) c.items.invariant refl begun read)
