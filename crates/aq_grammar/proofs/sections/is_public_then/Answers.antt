use Rattle.std.proofs.Common.{◌∷◌, [], codes}
use Rattle.aq_lex.specs.declared.token.Symbol.TheVariants.{Dot}
use Rattle.aq_grammar.specs.Terminals.{Keyword, Name, NameOf, Sign}
use Rattle.aq_grammar.proofs.Refusing.{goes_on_with}
use Rattle.aq_grammar.proofs.sections.is_public_then.Goals as goal

pub returns-then-is_public : goal.returns-then-is_public
returns-then-is_public c =
    goes_on_with (NameOf (codes "public")) (Sign Dot ∷ Name ∷ Keyword c.args.last.now ∷ []) c.args.tokens.now c.rest.result c.is_dot_name_then.result
    c.in_ok-is_public.is_public c.in_ok-is_public.ensures.whole c.if-is_public.true c.is_dot_name_then.ensures c.rest.ensures
