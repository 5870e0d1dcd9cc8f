use Rattle.std.proofs.Common.{rules, ◌≡◌, ◌∷◌, ◌++◌, [], ◌<◌, length, true, false, refl, sym, subst, Err}
use Rattle.aq_lex.specs.declared.token.Symbol.TheVariants.{Comma}
use Rattle.aq_grammar.specs.Terminals.{Sign, begins}
use Rattle.aq_grammar.specs.Forms.{sign}
use Rattle.aq_grammar.specs.Nonterminals.{reads}
use Rattle.aq_grammar.specs.Reading.{Read}
use Rattle.aq_grammar.specs.Steps.{Fails, read_next, read_listed}
use Rattle.aq_grammar.proofs.Loops.{Stands, gives_fault, listed_fails_first, listed_begins, listed_goes_on, listed_fails, ends_with_all}
use Rattle.aq_grammar.proofs.listing.listed.Goals as goal

-- src/listing.rt:34:29
pub returns-in_err-first : goal.returns-in_err-first
returns-in_err-first g c =
    let is_fault : c.from_residual.result ≡ Err c.in_err-first.field-0.0 = search rules in
    gives_fault (λ x. x) c.from_residual.result c.in_err-first.field-0.0 _ is_fault
    (listed_fails_first (g.F.Form.reading c.args.form.now) c.in_err-first.field-0.0 c.args.tokens.now c.in_err-first.ensures)

-- src/listing.rt:36:5
pub trees-init : goal.trees-init
trees-init g c =
    let pushed : c.push.new.self ≡ c.in_ok-first.first ∷ [] = search rules in
    subst (λ trees. Stands (Sign Comma ∷ []) [] (read_next (g.F.Form.reading c.args.form.now)) trees c.in_ok-first.rest (read_listed (g.F.Form.reading c.args.form.now) c.args.tokens.now))
    (sym pushed) (listed_begins (g.F.Form.reading c.args.form.now) c.args.tokens.now c.in_ok-first.rest c.in_ok-first.first c.in_ok-first.ensures)

-- src/listing.rt:38:29
pub returns-in_err-next : goal.returns-in_err-next
returns-in_err-next g c =
    let is_fault : c.from_residual-in_err-next.result ≡ Err c.in_err-next.field-0.0 = search rules in
    let fails : Fails c.in_err-next.field-0.0 (g.F.Form.reading c.args.form.now c.in_ok-behind.behind) = c.in_err-next.ensures in
    let begun : begins (Sign Comma ∷ []) c.trees.rest ≡ true = search rules in
    let comma : reads (sign Comma) c.trees.rest ≡ Read tt c.in_ok-behind.behind = c.in_ok-behind.ensures in
    gives_fault (λ x. x) c.from_residual-in_err-next.result c.in_err-next.field-0.0 _ is_fault
    (listed_fails (g.F.Form.reading c.args.form.now) c.in_err-next.field-0.0 c.trees.trees c.trees.rest c.in_ok-behind.behind _ c.trees.invariant begun comma fails)

-- src/listing.rt:36:5
pub trees-preserved : goal.trees-preserved
trees-preserved g c =
    let begun : begins (Sign Comma ∷ []) c.trees.rest ≡ true = search rules in
    let comma : reads (sign Comma) c.trees.rest ≡ Read tt c.in_ok-behind.behind = c.in_ok-behind.ensures in
    let read : g.F.Form.reading c.args.form.now c.in_ok-behind.behind ≡ Read c.in_ok-next.next c.in_ok-next.after = c.in_ok-next.ensures in
    let shorter : length c.in_ok-next.after < length c.in_ok-behind.behind = g.met.F.Form.shortens c.args.form.now c.in_ok-behind.behind c.in_ok-next.after c.in_ok-next.next read in
    let pushed : c.push-in-trees.new.self ≡ c.trees.trees ++ c.in_ok-next.next ∷ [] = search rules in
    subst (λ trees. Stands (Sign Comma ∷ []) [] (read_next (g.F.Form.reading c.args.form.now)) trees c.in_ok-next.after (read_listed (g.F.Form.reading c.args.form.now) c.args.tokens.now))
    (sym pushed)
    (listed_goes_on (g.F.Form.reading c.args.form.now) c.trees.trees c.trees.rest c.in_ok-behind.behind c.in_ok-next.after c.in_ok-next.next _ shorter c.trees.invariant begun comma read)

-- src/listing.rt:30:1
pub returns : goal.returns
returns g c =
    let ended : begins (Sign Comma ∷ []) c.trees.rest ≡ false = search rules in
    ends_with_all (Sign Comma ∷ []) [] (read_next (g.F.Form.reading c.args.form.now)) c.trees.trees c.trees.rest _ c.trees.invariant refl ended
