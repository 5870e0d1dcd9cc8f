-- The code of a function is printed as tokens that are read as the same code, where no more IFs and blocks lie within one another than may.
use Rattle.std.proofs.Common.{◌≡◌, ℕ, zero, suc, ◌≤◌, max, true, List, [], ◌∷◌, ◌++◌, flat_map, Option, Some, None, inl, inr, refl, sym, ap, ◌∙◌, subst, codes, append_assoc, arith}
use Rattle.std.proofs.lemmas.List.{append-nil}
use Rattle.std.specs.Prelude.{IsUtf8}
use Rattle.aq_base.specs.Names.{Text as Bytes}
use Rattle.aq_base.specs.declared.expr.Expr.{Expr}
use Rattle.aq_base.specs.declared.body.BodyStatement.{BodyStatement}
use Rattle.aq_base.specs.declared.body.BodyStatement.TheVariants as bodies
use Rattle.aq_base.specs.declared.body.ElseIf.{ElseIf}
use Rattle.aq_base.specs.declared.body.Handler.{Handler}
use Rattle.aq_base.specs.declared.body.Body.{Body}
use Rattle.aq_base.specs.declared.body.Returned.{Returned}
use Rattle.aq_base.specs.declared.body.Returned.TheVariants as returns
use Rattle.aq_base.specs.declared.data.Insert.{Insert}
use Rattle.aq_base.specs.declared.data.Update.{Update}
use Rattle.aq_base.specs.declared.data.Delete.{Delete}
use Rattle.aq_base.specs.declared.modes.SetConstraints.{SetConstraints}
use Rattle.aq_lex.specs.declared.token.Symbol.TheVariants.{Semicolon, DollarQuote}
use Rattle.aq_lex.specs.Lexemes.{PlacedLexeme, Lexeme, Word, QuotedName, Integer, Text, Symbol, Directive}
use Rattle.aq_grammar.specs.declared.scope.Scope.TheVariants.{InCode}
use Rattle.aq_grammar.specs.Terminals.{Terminal, Keyword, Message, Sign, text_is, is_message, text_of, lexeme_text}
use Rattle.aq_grammar.specs.Rules.{Nonterminal, ValueOf, Rule, Token, Both, Either, Done, Many, Block, refused}
use Rattle.aq_grammar.specs.Forms.{word, sign, ◌▸◌, ◌◂◌, mapped, says, optional}
use Rattle.aq_grammar.specs.Nonterminals.{rules}
use Rattle.aq_grammar.specs.Expressions.{whole_expression}
use Rattle.aq_grammar.specs.Changes.{insert, update, delete, set_constraints}
use Rattle.aq_grammar.specs.Bodies.{refused_in_code, inner_block, branch, else_if, otherwise, if_of, if_statement, conditions, handler_of, handler, handlers, body_of, body, block_of, raise, return_, body_statement, block, code}
use Rattle.aq_texts.specs.Written.{Written, say, separated, Literal, Mark}
use Rattle.aq_texts.specs.Canon as canon
use Rattle.aq_texts.specs.Canon.{perhaps}
use Rattle.aq_texts.proofs.Bodies.{raise_is, return_is, insert_is, update_is, delete_is, set_constraints_is}
use Rattle.aq_forms.proofs.Sound.{IsSound}
use Rattle.aq_forms.proofs.Laid.{laid, past, laid_append}
use Rattle.aq_forms.proofs.Derived.{Trees, DerivesEach, DerivesBy, DerivesWithin, DerivesSome, Derives}
use Rattle.aq_forms.proofs.Free.{FreeEach, Free}
use Rattle.aq_forms.proofs.Combining.{IsFree, Anything, Semicolon_next, Nothing_refused, MayFollow, AreFree, done_free, token_free, says_free, word_free, mark_free, both_free, both_any, behind_word, behind_mark, before_free, mapped_free, left_free, right_free, some_free, none_free}
use Rattle.aq_forms.proofs.Expressions.{expression_free}
use Rattle.aq_forms.proofs.Reading.{called_free}
use Rattle.aq_forms.proofs.Deriving.{derives_within}
use Rattle.aq_forms.proofs.Changes.{insert_free, update_free, delete_free, set_constraints_free}
use Rattle.aq_forms.proofs.BodyForms.{if_is, if_tokens, else_if_tokens, else_tokens, handler_tokens, handlers_tokens, block_tokens, block_tokens_are, block_is}
use Rattle.aq_forms.proofs.BlockEnds.{Ends_block, none_in_room, begins_so, each_follow, each_free}
use Rattle.aq_forms.proofs.Conditions.{conditions_free}
use Rattle.aq_forms.proofs.Depths.{statement_depth, block_depth, branches_depth, handlers_depth, body_depth, perhaps_deep, if_depth, block_is_deep}

-- A statement of a code: the tokens that it is printed as, which a `;` follows, and that nothing is refused where they begin.
pub record IsPrinted (room : ℕ) (rule : Rule BodyStatement) (s : BodyStatement) : Type 0 where
  pub tokens : List Written
  pub is : canon.body_statement s ≡ tokens
  pub free : IsFree rule s tokens Semicolon_next
  pub allowed : MayFollow tokens Anything (Nothing_refused (refused_in_code room))

-- ---- RAISE and RETURN

message_is : (lexeme : Lexeme) → text_is is_message lexeme ≡ true → IsSound lexeme → (is_message (lexeme_text lexeme) ≡ true) × IsUtf8 (lexeme_text lexeme)
message_is (Text text) fit sound = (fit, sound)
message_is (Word text) fit sound = cc
message_is (QuotedName text) fit sound = cc
message_is (Integer number) fit sound = cc
message_is (Symbol symbol) fit sound = cc
message_is (Directive directive) fit sound = cc

-- IF and BEGIN are refused where there is no room for them, and no other statement is
raise_allowed : (room : ℕ) (text : Bytes) → MayFollow (say (codes "RAISE") ∷ say (codes "EXCEPTION") ∷ Literal text ∷ []) Anything (Nothing_refused (refused_in_code room))
raise_allowed zero text lines at rest behind = refl
raise_allowed (suc room) text lines at rest behind = refl

raise_printed : (calls : (n : Nonterminal) → Trees (ValueOf n)) (room : ℕ) (s : BodyStatement) → DerivesBy calls raise s → IsPrinted room raise s
unfolding raise
raise_printed calls room s (first, inner, said, (second, last, also_said, (token, fit, sound, c), b), a) =
    let text = text_of token in
    let e : s ≡ bodies.Raise text = a ∙ (b ∙ c) in
    let message = message_is token.lexeme fit sound in
    record {
      tokens = say (codes "RAISE") ∷ say (codes "EXCEPTION") ∷ Literal text ∷ [];
      is = ap canon.body_statement e ∙ raise_is text;
      free = subst (λ (s : BodyStatement). IsFree raise s (say (codes "RAISE") ∷ say (codes "EXCEPTION") ∷ Literal text ∷ []) Semicolon_next) (sym e)
          (behind_word (codes "RAISE") (codes "raise") (word (codes "exception") ▸ Token Message (λ token. bodies.Raise (text_of token))) (bodies.Raise text)
          (say (codes "EXCEPTION") ∷ Literal text ∷ []) Semicolon_next refl refl
          (behind_word (codes "EXCEPTION") (codes "exception") (Token Message (λ token. bodies.Raise (text_of token))) (bodies.Raise text) (Literal text ∷ []) Semicolon_next refl refl
          (token_free Message (λ token. bodies.Raise (text_of token)) (Literal text) (bodies.Raise text) Semicolon_next (λ line. message.0) message.1 (λ line. refl))));
      allowed = raise_allowed room text;
    }

returned_rule : Rule Returned
returned_rule =
    Either (Keyword (codes "null") ∷ []) (says (codes "null") returns.Null)
    (Either (Keyword (codes "new") ∷ []) (says (codes "new") returns.New) (says (codes "old") returns.Old))

returned_free :
    (calls : (n : Nonterminal) → Trees (ValueOf n)) (what : Returned) (Behind : List PlacedLexeme → Type 0) → DerivesBy calls returned_rule what
    → IsFree returned_rule what (canon.returned what ∷ []) Behind
unfolding returned_rule
returned_free calls what Behind (inl (token, fit, sound, e)) =
    subst (λ (what : Returned). IsFree returned_rule what (canon.returned what ∷ []) Behind) (sym e)
    (left_free (Keyword (codes "null") ∷ []) (says (codes "null") returns.Null)
    (Either (Keyword (codes "new") ∷ []) (says (codes "new") returns.New) (says (codes "old") returns.Old)) returns.Null (say (codes "NULL") ∷ []) Behind
    (says_free (codes "NULL") (codes "null") returns.Null Behind refl refl))
returned_free calls what Behind (inr (inl (token, fit, sound, e))) =
    subst (λ (what : Returned). IsFree returned_rule what (canon.returned what ∷ []) Behind) (sym e)
    (right_free (Keyword (codes "null") ∷ []) (says (codes "null") returns.Null)
    (Either (Keyword (codes "new") ∷ []) (says (codes "new") returns.New) (says (codes "old") returns.Old)) returns.New (say (codes "NEW") ∷ []) Behind
    (left_free (Keyword (codes "new") ∷ []) (says (codes "new") returns.New) (says (codes "old") returns.Old) returns.New (say (codes "NEW") ∷ []) Behind
    (says_free (codes "NEW") (codes "new") returns.New Behind refl refl)))
returned_free calls what Behind (inr (inr (token, fit, sound, e))) =
    subst (λ (what : Returned). IsFree returned_rule what (canon.returned what ∷ []) Behind) (sym e)
    (right_free (Keyword (codes "null") ∷ []) (says (codes "null") returns.Null)
    (Either (Keyword (codes "new") ∷ []) (says (codes "new") returns.New) (says (codes "old") returns.Old)) returns.Old (say (codes "OLD") ∷ []) Behind
    (right_free (Keyword (codes "new") ∷ []) (says (codes "new") returns.New) (says (codes "old") returns.Old) returns.Old (say (codes "OLD") ∷ []) Behind
    (says_free (codes "OLD") (codes "old") returns.Old Behind refl refl)))

return_allowed : (room : ℕ) (what : Returned) → MayFollow (say (codes "RETURN") ∷ canon.returned what ∷ []) Anything (Nothing_refused (refused_in_code room))
return_allowed zero what lines at rest behind = refl
return_allowed (suc room) what lines at rest behind = refl

return_printed : (calls : (n : Nonterminal) → Trees (ValueOf n)) (room : ℕ) (s : BodyStatement) → DerivesBy calls return_ s → IsPrinted room return_ s
unfolding return_ returned_rule
return_printed calls room s (first, inner, said, (what, unit, derived, nothing, b), a) =
    let e : s ≡ bodies.Return what = a ∙ b in
    record {
      tokens = say (codes "RETURN") ∷ canon.returned what ∷ [];
      is = ap canon.body_statement e ∙ return_is what;
      free = subst (λ (s : BodyStatement). IsFree return_ s (say (codes "RETURN") ∷ canon.returned what ∷ []) Semicolon_next) (sym e)
          (behind_word (codes "RETURN") (codes "return") (mapped bodies.Return returned_rule) (bodies.Return what) (canon.returned what ∷ []) Semicolon_next refl refl
          (mapped_free bodies.Return returned_rule what (canon.returned what ∷ []) Semicolon_next (returned_free calls what Semicolon_next derived)));
      allowed = return_allowed room what;
    }

-- ---- blocks

abbrev pub ArePrinted : ℕ → List BodyStatement → Type 0
ArePrinted room [] = Unit {0}
ArePrinted room (s ∷ others) = IsPrinted room (body_statement room) s × ArePrinted room others

-- a statement with its `;`
ended_free : (room : ℕ) (s : BodyStatement) → IsPrinted room (body_statement room) s
    → IsFree (body_statement room ◂ sign Semicolon) s (canon.body_statement s ++ Mark Semicolon ∷ []) Anything
ended_free room s printed =
    subst (λ (tokens : List Written). IsFree (body_statement room ◂ sign Semicolon) s (tokens ++ Mark Semicolon ∷ []) Anything) (sym printed.is)
    (before_free (body_statement room) (sign Semicolon) s tt printed.tokens (Mark Semicolon ∷ []) Semicolon_next Anything printed.free (mark_free Semicolon Anything)
    (λ lines at rest behind. (lines at, rest, refl)))

ended_allowed : (room : ℕ) (s : BodyStatement) (others : List Written) → IsPrinted room (body_statement room) s
    → MayFollow ((canon.body_statement s ++ Mark Semicolon ∷ []) ++ others) Anything (Nothing_refused (refused_in_code room))
ended_allowed room s others printed =
    begins_so (canon.body_statement s ++ Mark Semicolon ∷ []) others (Nothing_refused (refused_in_code room)) Anything
    (begins_so (canon.body_statement s) (Mark Semicolon ∷ []) (Nothing_refused (refused_in_code room)) Anything
    (subst (λ (tokens : List Written). MayFollow tokens Anything (Nothing_refused (refused_in_code room))) (sym printed.is) printed.allowed))

-- the statements, behind each of which a `;` stands
statements_free :
    (room : ℕ) (xs : List BodyStatement) → ArePrinted room xs → (lines : ℕ → ℕ) (at : ℕ) (rest : List PlacedLexeme)
    → refused (refused_in_code room) rest ≡ None
    → FreeEach (refused_in_code room) (Free (body_statement room ◂ sign Semicolon)) xs (laid lines at (canon.block xs)) rest
statements_free room [] all lines at rest none = (refl, none)
statements_free room (s ∷ others) all lines at rest none =
    let tokens = canon.body_statement s ++ Mark Semicolon ∷ [] in
    let after = past at tokens in (
      laid lines at tokens,
      laid lines after (canon.block others),
      ended_allowed room s (canon.block others) all.0 lines at rest tt,
      ended_free room s all.0 lines at (laid lines after (canon.block others) ++ rest) tt,
      statements_free room others all.1 lines after rest none,
      laid_append lines at tokens (canon.block others),
    )

block_free : (room : ℕ) (xs : List BodyStatement) → ArePrinted room xs → IsFree (block room) xs (canon.block xs) Ends_block
unfolding block
block_free room xs all lines at rest behind = (xs, statements_free room xs all lines at rest (none_in_room room rest behind), refl)

-- ---- what comes behind the first block of an IF

else_follows : (last : Option (List BodyStatement)) → MayFollow (perhaps else_tokens last) Ends_block Ends_block
else_follows None lines at rest behind = behind
else_follows (Some found) lines at rest behind = refl

-- ELSIF, ELSE or END IF
abbrev end_tokens : List ElseIf → Option (List BodyStatement) → List Written
end_tokens others last = flat_map else_if_tokens others ++ (perhaps else_tokens last ++ say (codes "END") ∷ say (codes "IF") ∷ [])

abbrev and_else : List ElseIf → Option (List BodyStatement) → List ElseIf × Option (List BodyStatement)
and_else others last = (others, last)

abbrev with_ending : List BodyStatement → List ElseIf × Option (List BodyStatement) → List BodyStatement × (List ElseIf × Option (List BodyStatement))
with_ending first ended = (first, ended)

abbrev parts : ℕ → Rule (List ElseIf × Option (List BodyStatement))
parts room = Both and_else (Many (Keyword (codes "elsif") ∷ []) [] (λ branches. branches) (else_if room)) (otherwise room)

abbrev ending : ℕ → Rule (List ElseIf × Option (List BodyStatement))
ending room = parts room ◂ word (codes "end") ◂ word (codes "if")

end_follows : (others : List ElseIf) (last : Option (List BodyStatement)) (Behind : List PlacedLexeme → Type 0) → MayFollow (end_tokens others last) Behind Ends_block
end_follows [] None Behind lines at rest behind = refl
end_follows [] (Some found) Behind lines at rest behind = refl
end_follows (first ∷ others) last Behind lines at rest behind = refl

-- an IF is deep, however much room there is for it
if_is_deep : (calls : (n : Nonterminal) → Trees (ValueOf n)) (room : ℕ) (s : BodyStatement) → DerivesBy calls (if_statement room) s → (less : ℕ) × (statement_depth s ≡ suc less)
unfolding if_statement
if_is_deep calls room s (said, inner, _, (condition, (first, (others, last)), _, _, b), a) =
    (max (block_depth first) (max (branches_depth others) (perhaps_deep block_depth last)), ap statement_depth (a ∙ b) ∙ if_depth condition first others last)

-- the blocks that the calls of a derivation have are printed freely
abbrev AreBlocksFree : ((n : Nonterminal) → Trees (ValueOf n)) → ℕ → Type 0
AreBlocksFree calls room = (xs : List BodyStatement) → calls (Block room) xs → block_depth xs ≤ room → IsFree (rules (Block room)) xs (canon.block xs) Ends_block

inner_free : (calls : (n : Nonterminal) → Trees (ValueOf n)) (room : ℕ) → AreBlocksFree calls room → (xs : List BodyStatement) → DerivesBy calls (inner_block (suc room)) xs → block_depth xs ≤ room
    → IsFree (inner_block (suc room)) xs (canon.block xs) Ends_block
inner_free calls room free xs (own, derived, e) few =
    subst (λ (xs : List BodyStatement). IsFree (inner_block (suc room)) xs (canon.block xs) Ends_block) (sym e)
    (called_free (Block room) (λ statements. statements) own (canon.block own) Ends_block
    (free own derived (subst (λ (xs : List BodyStatement). block_depth xs ≤ room) e few)))

condition_free : (most : ℕ) (e : Expr) (Behind : List PlacedLexeme → Type 0) → DerivesBy (DerivesWithin most) (whole_expression InCode) e
    → IsFree (whole_expression InCode) e (canon.expression e) Behind
condition_free most e Behind derived = expression_free InCode e Behind (derives_within most (whole_expression InCode) e derived)

else_if_free : (most room : ℕ) → AreBlocksFree (DerivesWithin most) room → (x : ElseIf) → DerivesBy (DerivesWithin most) (else_if (suc room)) x → block_depth x.then ≤ room
    → IsFree (else_if (suc room)) x (else_if_tokens x) Ends_block
unfolding else_if
else_if_free most room free x (first, inner, said, (condition, statements, derived, (second, found, also_said, block_derived, c), b), a) few =
    let e : x ≡ branch condition statements = a ∙ b in
    subst (λ (x : ElseIf). IsFree (else_if (suc room)) x (else_if_tokens x) Ends_block) (sym e)
    (behind_word (codes "ELSIF") (codes "elsif") (Both branch (whole_expression InCode) (word (codes "then") ▸ inner_block (suc room))) (branch condition statements)
    (canon.expression condition ++ say (codes "THEN") ∷ canon.block statements) Ends_block refl refl
    (both_any branch (whole_expression InCode) (word (codes "then") ▸ inner_block (suc room)) condition statements (canon.expression condition)
    (say (codes "THEN") ∷ canon.block statements) Ends_block (condition_free most condition Anything derived)
    (behind_word (codes "THEN") (codes "then") (inner_block (suc room)) statements (canon.block statements) Ends_block refl refl
    (inner_free (DerivesWithin most) room free statements (subst (λ (xs : List BodyStatement). DerivesBy (DerivesWithin most) (inner_block (suc room)) xs) (sym c) block_derived)
    (subst (λ (x : ElseIf). block_depth x.then ≤ room) e few)))))

else_ifs_free : (most room : ℕ) → AreBlocksFree (DerivesWithin most) room → (xs : List ElseIf) → DerivesEach (DerivesBy (DerivesWithin most) (else_if (suc room))) xs
    → branches_depth xs ≤ room → AreFree (else_if (suc room)) else_if_tokens Ends_block xs
else_ifs_free most room free [] all few = tt
else_ifs_free most room free (x ∷ others) all few =
    (else_if_free most room free x all.0 (omega arith), else_ifs_free most room free others all.1 (omega arith))

otherwise_free : (most room : ℕ) → AreBlocksFree (DerivesWithin most) room → (last : Option (List BodyStatement)) → DerivesBy (DerivesWithin most) (otherwise (suc room)) last
    → perhaps_deep block_depth last ≤ room → IsFree (otherwise (suc room)) last (perhaps else_tokens last) Ends_block
unfolding otherwise
otherwise_free most room free last (inl (statements, unit, (first, found, said, derived, b), nothing, a)) few =
    let e : last ≡ Some found = a ∙ ap Some b in
    subst (λ (last : Option (List BodyStatement)). IsFree (otherwise (suc room)) last (perhaps else_tokens last) Ends_block) (sym e)
    (some_free (Keyword (codes "else") ∷ []) (word (codes "else") ▸ inner_block (suc room)) found (else_tokens found) Ends_block
    (behind_word (codes "ELSE") (codes "else") (inner_block (suc room)) found (canon.block found) Ends_block refl refl
    (inner_free (DerivesWithin most) room free found derived (subst (λ (last : Option (List BodyStatement)). perhaps_deep block_depth last ≤ room) e few))))
otherwise_free most room free last (inr e) few =
    subst (λ (last : Option (List BodyStatement)). IsFree (otherwise (suc room)) last (perhaps else_tokens last) Ends_block) (sym e)
    (none_free (Keyword (codes "else") ∷ []) (word (codes "else") ▸ inner_block (suc room)) Ends_block)

-- the branches, the ELSE and what ends an IF
end_free : (room : ℕ) (others : List ElseIf) (last : Option (List BodyStatement)) (Behind : List PlacedLexeme → Type 0)
    → AreFree (else_if room) else_if_tokens Ends_block others → IsFree (otherwise room) last (perhaps else_tokens last) Ends_block
    → IsFree (ending room) (and_else others last) (end_tokens others last) Behind
end_free room others last Behind branches_are last_is =
    let ws = flat_map else_if_tokens others ++ perhaps else_tokens last in
    let same : (ws ++ say (codes "END") ∷ []) ++ say (codes "IF") ∷ [] ≡ end_tokens others last = simp append_assoc in
    subst (λ (tokens : List Written). IsFree (ending room) (and_else others last) tokens Behind) same
    (before_free (parts room ◂ word (codes "end")) (word (codes "if")) (and_else others last) tt (ws ++ say (codes "END") ∷ []) (say (codes "IF") ∷ []) Anything Behind
    (before_free (parts room) (word (codes "end")) (and_else others last) tt ws (say (codes "END") ∷ []) Ends_block Anything
    (both_free and_else (Many (Keyword (codes "elsif") ∷ []) [] (λ branches. branches) (else_if room)) (otherwise room) others last
    (flat_map else_if_tokens others) (perhaps else_tokens last) Ends_block Ends_block (each_free (else_if room) else_if_tokens (λ branch ws lines at rest behind. refl) (Keyword (codes "elsif") ∷ []) others branches_are) last_is (else_follows last))
    (word_free (codes "END") (codes "end") Anything refl refl) (λ lines at rest behind. refl))
    (word_free (codes "IF") (codes "if") Behind refl refl) (λ lines at rest behind. tt))

if_tokens_free : (most room : ℕ) → AreBlocksFree (DerivesWithin most) room → (condition : Expr) (first : List BodyStatement) (others : List ElseIf) (last : Option (List BodyStatement))
    → DerivesBy (DerivesWithin most) (whole_expression InCode) condition → DerivesBy (DerivesWithin most) (inner_block (suc room)) first
    → DerivesEach (DerivesBy (DerivesWithin most) (else_if (suc room))) others → DerivesBy (DerivesWithin most) (otherwise (suc room)) last
    → suc (max (block_depth first) (max (branches_depth others) (perhaps_deep block_depth last))) ≤ suc room
    → IsFree (if_statement (suc room)) (bodies.If condition first others last) (if_tokens condition first (flat_map else_if_tokens others) last) Semicolon_next
unfolding if_statement
if_tokens_free most room free condition first others last condition_derived first_derived others_derived last_derived few =
    behind_word (codes "IF") (codes "if")
    (Both if_of (whole_expression InCode) (word (codes "then") ▸ Both with_ending (inner_block (suc room)) (ending (suc room)))) (bodies.If condition first others last)
    (canon.expression condition ++ say (codes "THEN") ∷ (canon.block first ++ end_tokens others last)) Semicolon_next refl refl
    (both_any if_of (whole_expression InCode) (word (codes "then") ▸ Both with_ending (inner_block (suc room)) (ending (suc room))) condition
    (with_ending first (and_else others last)) (canon.expression condition) (say (codes "THEN") ∷ (canon.block first ++ end_tokens others last)) Semicolon_next
    (condition_free most condition Anything condition_derived)
    (behind_word (codes "THEN") (codes "then") (Both with_ending (inner_block (suc room)) (ending (suc room))) (with_ending first (and_else others last))
    (canon.block first ++ end_tokens others last) Semicolon_next refl refl
    (both_free with_ending (inner_block (suc room)) (ending (suc room)) first (and_else others last) (canon.block first) (end_tokens others last) Ends_block Semicolon_next
    (inner_free (DerivesWithin most) room free first first_derived (omega arith))
    (end_free (suc room) others last Semicolon_next (else_ifs_free most room free others others_derived (omega arith))
    (otherwise_free most room free last last_derived (omega arith)))
    (end_follows others last Semicolon_next))))

if_printed : (most room : ℕ) → AreBlocksFree (DerivesWithin most) room → (s : BodyStatement) → DerivesBy (DerivesWithin most) (if_statement (suc room)) s → statement_depth s ≤ suc room
    → IsPrinted (suc room) (if_statement (suc room)) s
unfolding if_statement
if_printed most room free s (said, inner, _, (condition, parts, condition_derived, (said_then, parts_too, _, (first, ended, first_derived, (ended_too, said_if, (ended_last, said_end, (others, last, (own, own_derived, h), last_derived, g), _, f), _, e), d), c), b), a) few =
    let same_ending : ended ≡ and_else others last = e ∙ (f ∙ g) in
    let same_parts : parts ≡ with_ending first (and_else others last) = c ∙ (d ∙ ap (with_ending first) same_ending) in
    let whole : s ≡ bodies.If condition first others last = a ∙ (b ∙ ap (if_of condition) same_parts) in
    let others_derived = subst (DerivesEach (DerivesBy (DerivesWithin most) (else_if (suc room)))) (sym h) own_derived in
    let depth : statement_depth s ≡ suc (max (block_depth first) (max (branches_depth others) (perhaps_deep block_depth last))) =
    ap statement_depth whole ∙ if_depth condition first others last in
    record {
      tokens = if_tokens condition first (flat_map else_if_tokens others) last;
      is = ap canon.body_statement whole ∙ if_is condition first others last;
      free = subst (λ (s : BodyStatement). IsFree (if_statement (suc room)) s (if_tokens condition first (flat_map else_if_tokens others) last) Semicolon_next) (sym whole)
          (if_tokens_free most room free condition first others last condition_derived first_derived others_derived last_derived
          (subst (λ (depth : ℕ). depth ≤ suc room) depth few));
      allowed = λ lines at rest behind. refl;
    }

-- no IF stands where there is no room
if_in_room : (most room : ℕ) → ((less : ℕ) → AreBlocksFree (DerivesWithin most) less) → (s : BodyStatement) → DerivesBy (DerivesWithin most) (if_statement room) s
    → statement_depth s ≤ room → IsPrinted room (if_statement room) s
if_in_room most (suc room) free s derived few = if_printed most room (free room) s derived few
if_in_room most zero free s derived few =
    let deep = if_is_deep (DerivesWithin most) zero s derived in
    let depth : statement_depth s ≡ suc deep.0 = deep.1 in
    absurd (omega arith)

-- ---- blocks with their handlers

handler_free : (calls : (n : Nonterminal) → Trees (ValueOf n)) (room : ℕ) → AreBlocksFree calls room → (h : Handler) → DerivesBy calls (handler (suc room)) h → block_depth h.statements ≤ room
    → IsFree (handler (suc room)) h (handler_tokens h) Ends_block
unfolding handler
handler_free calls room free h (first, inner, said, (found, statements, derived, (second, own, also_said, block_derived, c), b), a) few =
    let e : h ≡ handler_of found statements = a ∙ b in
    subst (λ (h : Handler). IsFree (handler (suc room)) h (handler_tokens h) Ends_block) (sym e)
    (behind_word (codes "WHEN") (codes "when") (Both handler_of conditions (word (codes "then") ▸ inner_block (suc room))) (handler_of found statements)
    (separated (say (codes "OR")) canon.condition found ++ say (codes "THEN") ∷ canon.block statements) Ends_block refl refl
    (both_any handler_of conditions (word (codes "then") ▸ inner_block (suc room)) found statements (separated (say (codes "OR")) canon.condition found)
    (say (codes "THEN") ∷ canon.block statements) Ends_block (conditions_free calls found Anything derived)
    (behind_word (codes "THEN") (codes "then") (inner_block (suc room)) statements (canon.block statements) Ends_block refl refl
    (inner_free calls room free statements (subst (λ (xs : List BodyStatement). DerivesBy calls (inner_block (suc room)) xs) (sym c) block_derived)
    (subst (λ (h : Handler). block_depth h.statements ≤ room) e few)))))

each_handler_free : (calls : (n : Nonterminal) → Trees (ValueOf n)) (room : ℕ) → AreBlocksFree calls room → (xs : List Handler) → DerivesEach (DerivesBy calls (handler (suc room))) xs
    → handlers_depth xs ≤ room → AreFree (handler (suc room)) handler_tokens Ends_block xs
each_handler_free calls room free [] all few = tt
each_handler_free calls room free (h ∷ others) all few =
    (handler_free calls room free h all.0 (omega arith), each_handler_free calls room free others all.1 (omega arith))

handlers_free : (calls : (n : Nonterminal) → Trees (ValueOf n)) (room : ℕ) → AreBlocksFree calls room → (xs : List Handler) → DerivesBy calls (handlers (suc room)) xs → handlers_depth xs ≤ room
    → IsFree (handlers (suc room)) xs (handlers_tokens xs) Ends_block
unfolding handlers
handlers_free calls room free xs (inl (said, inner, _, (first, others, first_derived, (own, all, c), b), a)) few =
    let more : Rule (List Handler) = Many (Keyword (codes "when") ∷ []) [] (λ others. others) (handler (suc room)) in
    let e : xs ≡ first ∷ own = a ∙ (b ∙ ap (λ (others : List Handler). first ∷ others) c) in
    let so : handlers_depth (first ∷ own) ≤ room = subst (λ (xs : List Handler). handlers_depth xs ≤ room) e few in
    subst (λ (xs : List Handler). IsFree (handlers (suc room)) xs (handlers_tokens xs) Ends_block) (sym e)
    (left_free (Keyword (codes "exception") ∷ []) (word (codes "exception") ▸ Both (λ first others. first ∷ others) (handler (suc room)) more) (Done []) (first ∷ own)
    (handlers_tokens (first ∷ own)) Ends_block
    (behind_word (codes "EXCEPTION") (codes "exception") (Both (λ first others. first ∷ others) (handler (suc room)) more) (first ∷ own)
    (handler_tokens first ++ flat_map handler_tokens own) Ends_block refl refl
    (both_free (λ first others. first ∷ others) (handler (suc room)) more first own (handler_tokens first) (flat_map handler_tokens own) Ends_block Ends_block
    (handler_free calls room free first first_derived (omega arith))
    (each_free (handler (suc room)) handler_tokens (λ h ws lines at rest behind. refl) (Keyword (codes "when") ∷ []) own
    (each_handler_free calls room free own all (omega arith)))
    (each_follow (handler (suc room)) handler_tokens (λ h ws lines at rest behind. refl) own))))
handlers_free calls room free xs (inr e) few =
    let more : Rule (List Handler) = Many (Keyword (codes "when") ∷ []) [] (λ others. others) (handler (suc room)) in
    subst (λ (xs : List Handler). IsFree (handlers (suc room)) xs (handlers_tokens xs) Ends_block) (sym e)
    (right_free (Keyword (codes "exception") ∷ []) (word (codes "exception") ▸ Both (λ first others. first ∷ others) (handler (suc room)) more) (Done []) [] [] Ends_block
    (done_free [] Ends_block))

handlers_follow : (xs : List Handler) → MayFollow (handlers_tokens xs) Ends_block Ends_block
handlers_follow [] lines at rest behind = behind
handlers_follow (first ∷ others) lines at rest behind = refl

body_free : (calls : (n : Nonterminal) → Trees (ValueOf n)) (room : ℕ) → AreBlocksFree calls room → (b : Body) (Behind : List PlacedLexeme → Type 0) → DerivesBy calls (body (suc room)) b
    → body_depth b ≤ suc room → IsFree (body (suc room)) b (block_tokens b.statements b.handlers) Behind
unfolding body
body_free calls room free b Behind (said, inner, _, (own, _, (statements, found, statements_derived, found_derived, e2), _, e1), e0) few =
    let e : b ≡ body_of statements found = e0 ∙ (e1 ∙ e2) in
    let so : body_depth (body_of statements found) ≤ suc room = subst (λ (b : Body). body_depth b ≤ suc room) e few in
    let parts : Rule Body = Both body_of (inner_block (suc room)) (handlers (suc room)) in
    let same : (canon.block statements ++ handlers_tokens found) ++ say (codes "END") ∷ [] ≡ canon.block statements ++ (handlers_tokens found ++ say (codes "END") ∷ []) =
    append_assoc (canon.block statements) (handlers_tokens found) (say (codes "END") ∷ []) in
    subst (λ (b : Body). IsFree (body (suc room)) b (block_tokens b.statements b.handlers) Behind) (sym e)
    (behind_word (codes "BEGIN") (codes "begin") (parts ◂ word (codes "end")) (body_of statements found)
    (canon.block statements ++ (handlers_tokens found ++ say (codes "END") ∷ [])) Behind refl refl
    (subst (λ (tokens : List Written). IsFree (parts ◂ word (codes "end")) (body_of statements found) tokens Behind) same
    (before_free parts (word (codes "end")) (body_of statements found) tt (canon.block statements ++ handlers_tokens found) (say (codes "END") ∷ []) Ends_block Behind
    (both_free body_of (inner_block (suc room)) (handlers (suc room)) statements found (canon.block statements) (handlers_tokens found) Ends_block Ends_block
    (inner_free calls room free statements statements_derived (omega arith)) (handlers_free calls room free found found_derived (omega arith)) (handlers_follow found))
    (word_free (codes "END") (codes "end") Behind refl refl) (λ lines at rest behind. refl))))

block_printed : (calls : (n : Nonterminal) → Trees (ValueOf n)) (room : ℕ) → AreBlocksFree calls room → (s : BodyStatement) → DerivesBy calls (mapped block_of (body (suc room))) s
    → statement_depth s ≤ suc room → IsPrinted (suc room) (mapped block_of (body (suc room))) s
block_printed calls room free s (b, _, derived, _, e) few =
    let depth : statement_depth s ≡ body_depth b = ap statement_depth e ∙ block_is_deep b.statements b.handlers in
    record {
      tokens = block_tokens b.statements b.handlers;
      is = ap canon.body_statement e ∙ block_is b.statements b.handlers;
      free = subst (λ (s : BodyStatement). IsFree (mapped block_of (body (suc room))) s (block_tokens b.statements b.handlers) Semicolon_next) (sym e)
          (mapped_free block_of (body (suc room)) b (block_tokens b.statements b.handlers) Semicolon_next
          (body_free calls room free b Semicolon_next derived (subst (λ (depth : ℕ). depth ≤ suc room) depth few)));
      allowed = λ lines at rest behind. refl;
    }

-- no block stands where there is no room
block_in_room : (most room : ℕ) → ((less : ℕ) → AreBlocksFree (DerivesWithin most) less) → (s : BodyStatement) → DerivesBy (DerivesWithin most) (mapped block_of (body room)) s
    → statement_depth s ≤ room → IsPrinted room (mapped block_of (body room)) s
block_in_room most (suc room) free s derived few = block_printed (DerivesWithin most) room (free room) s derived few
block_in_room most zero free s (b, _, derived, _, e) few =
    let depth : statement_depth s ≡ suc (max (block_depth b.statements) (handlers_depth b.handlers)) = ap statement_depth e ∙ block_is_deep b.statements b.handlers in
    absurd (omega arith)

-- a statement that is a data statement too
as_printed : (A : Type 0) (room : ℕ) (f : A → BodyStatement) (rule : Rule A) (print : A → List Written)
    → ((x : A) → canon.body_statement (f x) ≡ print x) → ((x : A) → MayFollow (print x) Anything (Nothing_refused (refused_in_code room)))
    → (most : ℕ) → ((x : A) → Derives rule x → IsFree rule x (print x) Semicolon_next)
    → (s : BodyStatement) → DerivesBy (DerivesWithin most) (mapped f rule) s → IsPrinted room (mapped f rule) s
as_printed A room f rule print is allowed most free s (x, _, derived, _, e) =
    record {
      tokens = print x;
      is = ap canon.body_statement e ∙ is x;
      free = subst (λ (s : BodyStatement). IsFree (mapped f rule) s (print x) Semicolon_next) (sym e)
          (mapped_free f rule x (print x) Semicolon_next (free x (derives_within most rule x derived)));
      allowed = allowed x;
    }

insert_allowed : (room : ℕ) (s : Insert) → MayFollow (canon.insert s) Anything (Nothing_refused (refused_in_code room))
insert_allowed zero s lines at rest behind = refl
insert_allowed (suc room) s lines at rest behind = refl

update_allowed : (room : ℕ) (s : Update) → MayFollow (canon.update s) Anything (Nothing_refused (refused_in_code room))
update_allowed zero s lines at rest behind = refl
update_allowed (suc room) s lines at rest behind = refl

delete_allowed : (room : ℕ) (s : Delete) → MayFollow (canon.delete s) Anything (Nothing_refused (refused_in_code room))
delete_allowed zero s lines at rest behind = refl
delete_allowed (suc room) s lines at rest behind = refl

set_allowed : (room : ℕ) (s : SetConstraints) → MayFollow (canon.set_constraints s) Anything (Nothing_refused (refused_in_code room))
set_allowed zero s lines at rest behind = refl
set_allowed (suc room) s lines at rest behind = refl

to_left : (room : ℕ) (kinds : List Terminal) (a b : Rule BodyStatement) (s : BodyStatement) → IsPrinted room a s → IsPrinted room (Either kinds a b) s
to_left room kinds a b s printed =
    record { tokens = printed.tokens; is = printed.is; free = left_free kinds a b s printed.tokens Semicolon_next printed.free; allowed = printed.allowed }

to_right : (room : ℕ) (kinds : List Terminal) (a b : Rule BodyStatement) (s : BodyStatement) → IsPrinted room b s → IsPrinted room (Either kinds a b) s
to_right room kinds a b s printed =
    record { tokens = printed.tokens; is = printed.is; free = right_free kinds a b s printed.tokens Semicolon_next printed.free; allowed = printed.allowed }

statement_printed : (most room : ℕ) → ((less : ℕ) → AreBlocksFree (DerivesWithin most) less) → (s : BodyStatement) → DerivesBy (DerivesWithin most) (body_statement room) s
    → statement_depth s ≤ room → IsPrinted room (body_statement room) s
unfolding body_statement
statement_printed most room free s (inl derived) few = to_left room _ _ _ s (if_in_room most room free s derived few)
statement_printed most room free s (inr (inl derived)) few = to_right room _ _ _ s (to_left room _ _ _ s (block_in_room most room free s derived few))
statement_printed most room free s (inr (inr (inl derived))) few =
    to_right room _ _ _ s (to_right room _ _ _ s (to_left room _ _ _ s (raise_printed (DerivesWithin most) room s derived)))
statement_printed most room free s (inr (inr (inr (inl derived)))) few =
    to_right room _ _ _ s (to_right room _ _ _ s (to_right room _ _ _ s (to_left room _ _ _ s (return_printed (DerivesWithin most) room s derived))))
statement_printed most room free s (inr (inr (inr (inr (inl derived))))) few =
    to_right room _ _ _ s (to_right room _ _ _ s (to_right room _ _ _ s (to_right room _ _ _ s (to_left room _ _ _ s (as_printed Insert room bodies.Insert (insert InCode) canon.insert insert_is (insert_allowed room) most (insert_free InCode) s derived)))))
statement_printed most room free s (inr (inr (inr (inr (inr (inl derived)))))) few =
    to_right room _ _ _ s (to_right room _ _ _ s (to_right room _ _ _ s (to_right room _ _ _ s (to_right room _ _ _ s (to_left room _ _ _ s (as_printed Update room bodies.Update (update InCode) canon.update update_is (update_allowed room) most (update_free InCode) s derived))))))
statement_printed most room free s (inr (inr (inr (inr (inr (inr (inl derived))))))) few =
    to_right room _ _ _ s (to_right room _ _ _ s (to_right room _ _ _ s (to_right room _ _ _ s (to_right room _ _ _ s (to_right room _ _ _ s (to_left room _ _ _ s (as_printed Delete room bodies.Delete (delete InCode) canon.delete delete_is (delete_allowed room) most (delete_free InCode) s derived)))))))
statement_printed most room free s (inr (inr (inr (inr (inr (inr (inr derived))))))) few =
    to_right room _ _ _ s (to_right room _ _ _ s (to_right room _ _ _ s (to_right room _ _ _ s (to_right room _ _ _ s (to_right room _ _ _ s (to_right room _ _ _ s (as_printed SetConstraints room bodies.SetConstraints set_constraints canon.set_constraints set_constraints_is (set_allowed room) most (set_constraints_free Semicolon_next) s derived)))))))

statements_printed : (most room : ℕ) → ((less : ℕ) → AreBlocksFree (DerivesWithin most) less) → (xs : List BodyStatement)
    → DerivesEach (DerivesBy (DerivesWithin most) (body_statement room ◂ sign Semicolon)) xs → block_depth xs ≤ room → ArePrinted room xs
statements_printed most room free [] all few = tt
statements_printed most room free (s ∷ others) ((own, _, derived, _, e), all) few =
    let few_in_own : statement_depth own ≤ room = subst (λ (s : BodyStatement). statement_depth s ≤ room) e (omega arith) in (
      subst (IsPrinted room (body_statement room)) (sym e) (statement_printed most room free own derived few_in_own),
      statements_printed most room free others all (omega arith),
    )

blocks_free : (most room : ℕ) → AreBlocksFree (DerivesWithin most) room
unfolding rules block
blocks_free zero room xs derived few = absurd derived
blocks_free (suc most) room xs (own, all, e) few =
    subst (λ (xs : List BodyStatement). IsFree (block room) xs (canon.block xs) Ends_block) (sym e)
    (block_free room own (statements_printed most room (λ less. blocks_free most less) own all (subst (λ (xs : List BodyStatement). block_depth xs ≤ room) e few)))

-- `$$ BEGIN` and `END $$`, with no `;`
pub code_free : (b : Body) (Behind : List PlacedLexeme → Type 0) → Derives code b → body_depth b ≤ 100
    → IsFree code b (Mark DollarQuote ∷ (canon.body b ++ Mark DollarQuote ∷ [])) Behind
unfolding code
code_free b Behind (_, _, _, (_, _, (own, _, derived, _, e2), _, e1), e0) few =
    let e : b ≡ own = e0 ∙ (e1 ∙ e2) in
    let tokens = block_tokens own.statements own.handlers in
    let ended : Rule Body = body 100 ◂ optional (Sign Semicolon ∷ []) (sign Semicolon) in
    let same : (tokens ++ []) ++ Mark DollarQuote ∷ [] ≡ canon.body own ++ Mark DollarQuote ∷ [] =
    ap (λ (found : List Written). found ++ Mark DollarQuote ∷ []) (append-nil tokens ∙ sym (block_tokens_are own.statements own.handlers)) in
    subst (λ (b : Body). IsFree code b (Mark DollarQuote ∷ (canon.body b ++ Mark DollarQuote ∷ [])) Behind) (sym e)
    (behind_mark DollarQuote (ended ◂ sign DollarQuote) own (canon.body own ++ Mark DollarQuote ∷ []) Behind
    (subst (λ (found : List Written). IsFree (ended ◂ sign DollarQuote) own found Behind) same
    (before_free ended (sign DollarQuote) own tt (tokens ++ []) (Mark DollarQuote ∷ []) Anything Behind
    (before_free (body 100) (optional (Sign Semicolon ∷ []) (sign Semicolon)) own None tokens [] Anything Anything
    (own_free own derived (subst (λ (b : Body). body_depth b ≤ 100) e few))
    (none_free (Sign Semicolon ∷ []) (sign Semicolon) Anything) (λ lines at rest behind. tt))
    (mark_free DollarQuote Behind) (λ lines at rest behind. tt))))
  where
    own_free : (own : Body) → Derives (body 100) own → body_depth own ≤ 100 → IsFree (body 100) own (block_tokens own.statements own.handlers) Anything
    own_free own derived few = body_free DerivesSome 99 (λ xs some few. blocks_free some.0 99 xs some.1 few) own Anything derived few
