-- Bytes are one script at the most, or one line is refused first, with one fault.
use Rattle.std.proofs.Common.{◌≡◌, ℕ, List, [], ◌∷◌, ◌++◌, take, refl, sym, ap, ap₂, ◌∙◌, subst}
use Rattle.std.proofs.lemmas.List.{append-nil}
use Rattle.aq_base.specs.declared.fault.SqlFault.{SqlFault}
use Rattle.aq_base.specs.declared.script.Script.{Script}
use Rattle.aq_lex.specs.declared.token.Token.{Token}
use Rattle.aq_lex.specs.Tokens.{Lexes}
use Rattle.aq_lex.specs.Lexemes.{PlacedLexeme, lexemes, line_at}
use Rattle.aq_lex.proofs.Once.{lexes_once, lexes_or_not, refused_once}
use Rattle.aq_grammar.specs.Reading.{Outcome, Read}
use Rattle.aq_grammar.specs.Places.{IsRefusedAt}
use Rattle.aq_grammar.proofs.RefusedAt.{none_in_beginning}
use Rattle.aq_script.specs.Sections.{SpellsScript, BarsScript}
use Rattle.aq_script.specs.Parsing.{whole_script}
use Rattle.aq_script.specs.Reading.{Reads, HasNoReading, AreTokens, All, Before, BeginsScript, IsRefusedLine, AtToken, AtByte, AtEnd, IfRefused}
use Rattle.aq_script.specs.RefusedLines.{line_or}
use Rattle.aq_script.specs.declared.fault.ScriptFault.{ScriptFault}
use Rattle.aq_script.specs.declared.fault.ScriptFault.TheVariants.{NoMemory, Refused}
use Rattle.aq_script.proofs.Ends.{script_short}
use Rattle.aq_script.proofs.Places.{none_in_script}
use Rattle.aq_script.proofs.Refusals.{one_refusal, script_is_read}

-- ---- the bytes as far as they are tokens

one_front : (bytes front other : List ℕ) (a b : List Token) → AreTokens bytes front → AreTokens bytes other → Lexes front a → Lexes other b → front ≡ other
one_front bytes front other a b All All first second = refl
one_front bytes front other a b All (Before at bad) first second = absurd (lexes_or_not bytes a at first bad)
one_front bytes front other a b (Before at bad) All first second = absurd (lexes_or_not bytes b at second bad)
one_front bytes front other a b (Before at bad) (Before place none) first second = ap (λ (n : ℕ). take n bytes) (refused_once bytes at place bad none)

same_lexemes : (front other : List ℕ) (a b : List Token) → front ≡ other → Lexes front a → Lexes other b → lexemes front a ≡ lexemes other b
same_lexemes front other a b e first second =
    ap₂ lexemes e (lexes_once other a b (subst (λ (bytes : List ℕ). Lexes bytes a) e first) second)

one_lexed : (bytes front other : List ℕ) (a b : List Token) → AreTokens bytes front → AreTokens bytes other → Lexes front a → Lexes other b → lexemes front a ≡ lexemes other b
one_lexed bytes front other a b one two first second = same_lexemes front other a b (one_front bytes front other a b one two first second) first second

-- ---- one script

-- what the bytes are is read
read_is : (bytes : List ℕ) (script : Script) (tokens : List Token) → Lexes bytes tokens → Reads bytes script → whole_script (lexemes bytes tokens) ≡ Read script []
read_is bytes script tokens l reads =
    ap whole_script (same_lexemes bytes bytes tokens reads.tokens refl l reads.lexed) ∙ script_is_read (lexemes bytes reads.tokens) script reads.spelled reads.clear

pub one_script : (bytes : List ℕ) (a b : Script) → Reads bytes a → Reads bytes b → a ≡ b
one_script bytes a b first second =
    let e : ◌≡◌ {A = Outcome Script} (Read a []) (Read b []) = sym (read_is bytes a first.tokens first.lexed first) ∙ read_is bytes b first.tokens first.lexed second in cc

-- ---- a script, and a line that is refused

none_read : (bytes front_bytes : List ℕ) (tokens : List Token) (front place : List PlacedLexeme) (script : Script) (fault : SqlFault) → Reads bytes script → AreTokens bytes front_bytes
    → Lexes front_bytes tokens → lexemes front_bytes tokens ≡ front ++ place → IsRefusedAt SpellsScript BarsScript front place fault → ⊥
none_read bytes front_bytes tokens front place script fault reads are l e refused =
    none_in_script (lexemes bytes reads.tokens) front place script fault reads.spelled reads.clear
    (one_lexed bytes bytes front_bytes reads.tokens tokens All are reads.lexed l ∙ e) refused

pub not_both : (bytes : List ℕ) (script : Script) (line : ℕ) (fault : SqlFault) → Reads bytes script → IsRefusedLine bytes line fault → ⊥
not_both bytes script line fault reads (AtToken front_bytes tokens front token behind fault' are l e refused) =
    none_read bytes front_bytes tokens front (token ∷ behind) script fault' reads are l e refused
not_both bytes script line fault reads (AtByte at tokens bad l begins) = lexes_or_not bytes reads.tokens at reads.lexed bad
not_both bytes script line fault reads (AtEnd tokens fault' l refused) =
    none_read bytes bytes tokens (lexemes bytes tokens) [] script fault' reads All l (sym (append-nil (lexemes bytes tokens))) refused

-- bytes of which a line is refused are no script
pub no_reading : (bytes : List ℕ) (fault : ScriptFault) → IfRefused fault (IsRefusedLine bytes) → IfRefused fault (λ line why. HasNoReading bytes)
no_reading bytes NoMemory refused = tt
no_reading bytes (Refused line fault) refused = λ script reads. not_both bytes script line fault reads refused

-- ---- one line

-- no token is refused where the tokens begin a script
none_begun : (bytes front_bytes other_bytes : List ℕ) (a b : List Token) (front : List PlacedLexeme) (token : PlacedLexeme) (behind : List PlacedLexeme) (fault : SqlFault)
    → AreTokens bytes front_bytes → AreTokens bytes other_bytes → Lexes front_bytes a → Lexes other_bytes b → lexemes front_bytes a ≡ front ++ token ∷ behind
    → IsRefusedAt SpellsScript BarsScript front (token ∷ behind) fault → BeginsScript (lexemes other_bytes b) → ⊥
none_begun bytes front_bytes other_bytes a b front token behind fault one two first second e refused begins =
    let same = one_lexed bytes other_bytes front_bytes b a two one second first in
    none_in_beginning SpellsScript BarsScript script_short (lexemes other_bytes b) front token behind fault begins.clear begins.no_subquery begins.begun (same ∙ e) refused

-- two places that are refused are one, with one fault
two_places : (bytes front_bytes other_bytes : List ℕ) (a b : List Token) (front place other rest : List PlacedLexeme) (one two : SqlFault) → AreTokens bytes front_bytes
    → AreTokens bytes other_bytes → Lexes front_bytes a → Lexes other_bytes b → lexemes front_bytes a ≡ front ++ place → lexemes other_bytes b ≡ other ++ rest
    → IsRefusedAt SpellsScript BarsScript front place one → IsRefusedAt SpellsScript BarsScript other rest two → (place ≡ rest) × (one ≡ two)
two_places bytes front_bytes other_bytes a b front place other rest one two are_one are_two first second e p refused_one refused_two =
    let same = one_lexed bytes front_bytes other_bytes a b are_one are_two first second in
    let at = one_refusal (lexemes front_bytes a) front place other rest one two e (same ∙ p) refused_one refused_two in
    (at.1, at.2)

nothing_behind : (bytes : List ℕ) (tokens : List Token) → lexemes bytes tokens ≡ lexemes bytes tokens ++ []
nothing_behind bytes tokens = sym (append-nil (lexemes bytes tokens))

pub one_line : (bytes : List ℕ) (line other : ℕ) (a b : SqlFault) → IsRefusedLine bytes line a → IsRefusedLine bytes other b → (line ≡ other) × (a ≡ b)
one_line bytes line other a b (AtToken front_bytes tokens front token behind fault are l e refused) (AtToken front_bytes' tokens' front' token' behind' fault' are' l' e' refused') =
    let same = two_places bytes front_bytes front_bytes' tokens tokens' front (token ∷ behind) front' (token' ∷ behind') fault fault' are are' l l' e e' refused refused' in
    (ap (line_or 0) same.0, same.1)
one_line bytes line other a b (AtToken front_bytes tokens front token behind fault are l e refused) (AtByte at tokens' bad l' begins) =
    absurd (none_begun bytes front_bytes (take at bytes) tokens tokens' front token behind fault are (Before at bad) l l' e refused begins)
one_line bytes line other a b (AtToken front_bytes tokens front token behind fault are l e refused) (AtEnd tokens' fault' l' refused') =
    let same = two_places bytes front_bytes bytes tokens tokens' front (token ∷ behind) (lexemes bytes tokens') [] fault fault' are All l l' e (nothing_behind bytes tokens') refused refused' in
    absurd cc
one_line bytes line other a b (AtByte at tokens bad l begins) (AtToken front_bytes tokens' front token behind fault are l' e refused) =
    absurd (none_begun bytes front_bytes (take at bytes) tokens' tokens front token behind fault are (Before at bad) l' l e refused begins)
one_line bytes line other a b (AtByte at tokens bad l begins) (AtByte at' tokens' bad' l' begins') =
    (ap (line_at bytes) (refused_once bytes at at' bad bad'), refl)
one_line bytes line other a b (AtByte at tokens bad l begins) (AtEnd tokens' fault l' refused) = absurd (lexes_or_not bytes tokens' at l' bad)
one_line bytes line other a b (AtEnd tokens fault l refused) (AtToken front_bytes tokens' front token behind fault' are l' e refused') =
    let same = two_places bytes bytes front_bytes tokens tokens' (lexemes bytes tokens) [] front (token ∷ behind) fault fault' All are l l' (nothing_behind bytes tokens) e refused refused' in
    absurd cc
one_line bytes line other a b (AtEnd tokens fault l refused) (AtByte at tokens' bad l' begins) = absurd (lexes_or_not bytes tokens at l bad)
one_line bytes line other a b (AtEnd tokens fault l refused) (AtEnd tokens' fault' l' refused') =
    let same =
    two_places bytes bytes bytes tokens tokens' (lexemes bytes tokens) [] (lexemes bytes tokens') [] fault fault' All All l l' (nothing_behind bytes tokens) (nothing_behind bytes tokens') refused refused' in
    (refl, same.1)
