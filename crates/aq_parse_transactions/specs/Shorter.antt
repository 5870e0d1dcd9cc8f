-- Behind a name fewer tokens are left. It is here since a form says so of its reading.
use Rattle.std.specs.Prelude.{◌≡◌, ◌<◌, List, length}
use Rattle.std.proofs.Common.{refl}
use Rattle.aq_base.specs.Names.{Text as Bytes}
use Rattle.aq_lex.specs.Lexemes.{PlacedLexeme}
use Rattle.aq_grammar.specs.Reading.{Read}
use Rattle.aq_grammar.specs.Nonterminals.{marks, rules, reads}
use Rattle.aq_grammar.specs.Forms.{name, public_name}
use Rattle.aq_grammar.proofs.Shorter.{reads_shorten}

pub public_name_is_shorter : (tokens rest : List PlacedLexeme) (x : Bytes) → reads public_name tokens ≡ Read x rest → length rest < length tokens
unfolding marks rules name public_name
public_name_is_shorter = reads_shorten public_name refl refl
