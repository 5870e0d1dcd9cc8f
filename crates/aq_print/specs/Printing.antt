-- A text as it is printed, token by token.
use Rattle.std.specs.Prelude.{Bool, true, false, not, ◌&&◌, ◌||◌, List, [], ◌∷◌, ◌++◌, if◌then◌else◌}
use Rattle.aq_base.specs.Names.{Text}
use Rattle.aq_texts.specs.Written.{Written, token_text, joins_last, joins_next, is_minus}

pub record Printed : Type 0 where
  pub text : Text
  -- no blank stands before the next token
  pub joins : Bool
  -- the last token was a minus sign, which no other one may join
  pub behind_minus : Bool

-- at the front of a line
abbrev pub fresh : Text → Printed
fresh text = record { text = text; joins = true; behind_minus = false }

-- a token joins what stands before it
abbrev pub is_joined : Printed → Written → Bool
is_joined before token = joins_last token || (not (is_minus token && before.behind_minus) && before.joins)

unfoldable pub put : Printed → Written → Printed
put before token = record {
  text = before.text ++ ((if is_joined before token then [] else 32 ∷ []) ++ token_text token);
  joins = joins_next token;
  behind_minus = is_minus token;
}

abbrev pub put_all : Printed → List Written → Printed
put_all before [] = before
put_all before (token ∷ tokens) = put_all (put before token) tokens

-- tokens, and the end of their line
abbrev pub put_line : Printed → List Written → Printed
put_line before tokens = fresh ((put_all before tokens).text ++ 10 ∷ [])

abbrev pub put_lines : Printed → List (List Written) → Printed
put_lines before [] = before
put_lines before (tokens ∷ lines) = put_lines (put_line before tokens) lines
