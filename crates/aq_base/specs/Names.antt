-- Names as they stand in a script: unreserved words of 63 bytes at the most, in lower case
-- (PostgreSQL manual, section "Identifiers and Key Words"; appendix "SQL Key Words").
use Rattle.std.specs.Prelude.{ℕ, Bool, true, false, not, ◌&&◌, ◌||◌, ◌==◌, List, [], ◌∷◌, ◌++◌, length, nat_le, nat_eq, codes}
use Rattle.std.specs.List.{list_all, list_any}
use Rattle.std.specs.Cmp.Lexicographic.{pointwise}

-- a text, as its bytes
abbrev pub Text : Type 0
Text = List ℕ

abbrev pub same_text : Text → Text → Bool
same_text a b = pointwise nat_eq a b

-- between two bytes, both included
abbrev pub is_between : ℕ → ℕ → ℕ → Bool
is_between low high byte = nat_le low byte && nat_le byte high

-- a lower case letter or `_`
abbrev pub begins_word : ℕ → Bool
begins_word byte = is_between 97 122 byte || byte == 95

-- a lower case letter, `_`, a digit or `$`
abbrev pub goes_on_in_word : ℕ → Bool
goes_on_in_word byte = begins_word byte || is_between 48 57 byte || byte == 36

abbrev pub is_word : Text → Bool
is_word [] = false
is_word (byte ∷ bytes) = begins_word byte && list_all goes_on_in_word bytes

abbrev pub reserved_words : List Text
reserved_words =
    codes "add" ∷ codes "after" ∷ codes "all" ∷ codes "alter" ∷ codes "and" ∷ codes "as" ∷ codes "begin" ∷ codes "by"
    ∷ codes "cascade" ∷ codes "check" ∷ codes "commit" ∷ codes "constraint" ∷ codes "constraints" ∷ codes "create"
    ∷ codes "default" ∷ codes "deferrable" ∷ codes "deferred" ∷ codes "delete" ∷ codes "distinct" ∷ codes "each"
    ∷ codes "else" ∷ codes "elsif" ∷ codes "end" ∷ codes "execute" ∷ codes "false" ∷ codes "for" ∷ codes "foreign"
    ∷ codes "from" ∷ codes "function" ∷ codes "if" ∷ codes "immediate" ∷ codes "initially" ∷ codes "insert" ∷ codes "into"
    ∷ codes "is" ∷ codes "key" ∷ codes "match" ∷ codes "new" ∷ codes "not" ∷ codes "null" ∷ codes "old" ∷ codes "on"
    ∷ codes "only" ∷ codes "or" ∷ codes "primary" ∷ codes "raise" ∷ codes "references" ∷ codes "referencing"
    ∷ codes "release" ∷ codes "restrict" ∷ codes "return" ∷ codes "rollback" ∷ codes "row" ∷ codes "savepoint"
    ∷ codes "select" ∷ codes "set" ∷ codes "table" ∷ codes "tg_op" ∷ codes "then" ∷ codes "to" ∷ codes "trigger"
    ∷ codes "true" ∷ codes "unique" ∷ codes "update" ∷ codes "values" ∷ codes "when" ∷ codes "where" ∷ []

abbrev pub is_reserved : Text → Bool
is_reserved word = list_any (same_text word) reserved_words

abbrev pub is_short : Text → Bool
is_short name = nat_le (length name) 63

abbrev pub is_name : Text → Bool
is_name name = is_word name && is_short name && not (is_reserved name)

-- no text of the list is the text
abbrev pub is_apart_from : List Text → Text → Bool
is_apart_from names name = not (list_any (same_text name) names)

-- no text stands twice in the list
abbrev pub all_differ : List Text → Bool
all_differ [] = true
all_differ (name ∷ names) = is_apart_from names name && all_differ names

-- the names that constraints get by default (PostgreSQL source, indexcmds.c, ChooseIndexName; tablecmds.c)
abbrev pub primary_key_name : Text → Text
primary_key_name table = table ++ codes "_pkey"

abbrev pub foreign_key_name : Text → Text → Text
foreign_key_name table col = table ++ codes "_" ++ col ++ codes "_fkey"
