use Rattle.std.proofs.Common.{◌≡◌, ◌≤◌, ℕ, ◌-◌, List, length, drop, Option, Some, None, sym, ap, ap₂, ◌∙◌, subst}
use Rattle.std.proofs.lemmas.List.{length-map}
use Rattle.aq_base.specs.declared.fault.SqlFault.{SqlFault}
use Rattle.aq_base.specs.declared.statement.Statement.{Statement}
use Rattle.aq_lex.specs.declared.token.Token.{Token}
use Rattle.aq_lex.specs.Lexemes.{PlacedLexeme, placed, lexemes}
use Rattle.aq_grammar.specs.Nonterminals.{reads}
use Rattle.aq_grammar.specs.Reading.{Read, Stop}
use Rattle.aq_grammar.specs.Steps.{Fails}
use Rattle.aq_grammar.specs.Stopping.{reason_of, last_tokens, refused_place}
use Rattle.aq_parse.specs.declared.parsing.ParseFault.{ParseFault}
use Rattle.aq_parse.specs.declared.statements.Place.{Place}
use Rattle.aq_parse.specs.Statements.{statement_of}
use Rattle.aq_parse.specs.Parsed.{IsParsed, IsParseFault, IsPlaceTold}
use Rattle.aq_parse.proofs.StatementFits.{statement_fits, statement_barred_short, no_subquery_begun}
use Rattle.aq_parse.proofs.ParsedAt.{is_parsed, is_refused}
use Rattle.aq_parse.proofs.parsing.parse.Goals as goal

-- all tokens, and those behind a place within them
module _ (place : Place) (bytes : List ℕ) (tokens : List Token) (from : ℕ) (all here : List PlacedLexeme) (all_is : all ≡ lexemes bytes tokens)
    (here_is : here ≡ drop from all) (within : from ≤ length tokens) where
  here_so : here ≡ drop from (lexemes bytes tokens)
  here_so = here_is ∙ ap (λ u. drop from u) all_is

  within_so : from ≤ length (lexemes bytes tokens)
  within_so = subst (λ n. from ≤ n) (sym (length-map tokens (placed bytes))) within

  parsed : (rest : List PlacedLexeme) (next : ℕ) (statement : Statement) → reads (statement_of place) here ≡ Read statement rest → next ≡ length all - length rest
      → IsParsed (statement_of place) (lexemes bytes tokens) from (record { statement = statement; next = next })
  parsed rest next statement read next_is =
      is_parsed (statement_of place) (statement_fits place) (lexemes bytes tokens) rest from next statement within_so
      (next_is ∙ ap (λ u. length u - length rest) all_is) (subst (λ u. reads (statement_of place) u ≡ Read statement rest) here_so read)

  refused : (rest : List PlacedLexeme) (left : ℕ) (refusal : Option SqlFault) (told : ParseFault) → reads (statement_of place) here ≡ Stop (reason_of refusal) rest
      → left ≡ length rest → IsPlaceTold (length all) (refused_place (drop from all) (reason_of refusal) (last_tokens left (drop from all))) told
      → IsParseFault (statement_of place) (lexemes bytes tokens) from told
  refused rest left refusal told stops is_left is_told =
      is_refused (statement_of place) (statement_fits place) (statement_barred_short place) (no_subquery_begun place) (lexemes bytes tokens) rest from left refusal told within_so
      is_left (subst (λ u. reads (statement_of place) u ≡ Stop (reason_of refusal) rest) here_so stops)
      (subst (λ u. IsPlaceTold (length u) (refused_place (drop from u) (reason_of refusal) (last_tokens left (drop from u))) told) all_is is_told)

-- src/parsing.rt:98:1
pub returns-in-Ok-clause-parsed : goal.returns-in-Ok-clause-parsed
returns-in-Ok-clause-parsed c =
    parsed c.args.place c.args.bytes.now c.args.tokens.now c.args.from c.new-all.result c.behind.result c.new-all.ensures c.behind.ensures c.requires.within c.in-Ok.rest
    c.saturating_sub.result c.in-Ok.statement c.in-Ok.ensures (c.saturating_sub.ensures ∙ ap₂ (λ a b. a - b) c.len.ensures c.len-in-Ok.ensures)

-- src/parsing.rt:98:1
pub returns-in_ok-stopped-in-Err-Syntax-clause-refused :
    goal.returns-in_ok-stopped-in-Err-Syntax-clause-refused
returns-in_ok-stopped-in-Err-Syntax-clause-refused c =
    let outcome = reads (statement_of c.args.place) c.behind.result in
    let stops = subst (λ fault. Fails fault outcome) c.in-Err-Syntax.field-0-is c.in-Err-Syntax.ensures in
    refused c.args.place c.args.bytes.now c.args.tokens.now c.args.from c.new-all.result c.behind.result c.new-all.ensures c.behind.ensures c.requires.within stops.0
    c.in-Err-Syntax.left None c.in_ok-stopped-in-Err-Syntax.field-0 stops.1 stops.2 c.in_ok-stopped-in-Err-Syntax.ensures

-- src/parsing.rt:98:1
pub returns-in_ok-stopped-in-Err-Refused-clause-refused :
    goal.returns-in_ok-stopped-in-Err-Refused-clause-refused
returns-in_ok-stopped-in-Err-Refused-clause-refused c =
    let outcome = reads (statement_of c.args.place) c.behind.result in
    let stops = subst (λ fault. Fails fault outcome) c.in-Err-Refused.field-0-is c.in-Err-Refused.ensures in
    refused c.args.place c.args.bytes.now c.args.tokens.now c.args.from c.new-all.result c.behind.result c.new-all.ensures c.behind.ensures c.requires.within stops.0
    c.in-Err-Refused.left (Some c.in-Err-Refused.fault) c.in_ok-stopped-in-Err-Refused.field-0 stops.1 stops.2 c.in_ok-stopped-in-Err-Refused.ensures
