-- Classes of characters.
use Rattle.std.specs.Prelude.{ℕ, ◌==◌, ◌||◌, ◌&&◌, nat_le, Bool}
use Rattle.unicode_ident.specs.Ident.{is_xid_start, is_xid_continue}

-- characters that stand for themselves in the forms of words
abbrev pub line_feed : ℕ
line_feed = 10

abbrev pub quote : ℕ
quote = 34

abbrev pub point : ℕ
point = 46

abbrev pub backslash : ℕ
backslash = 92

abbrev pub underscore : ℕ
underscore = 95

abbrev pub byte_order_mark : ℕ
byte_order_mark = 65279

-- space, tab, line feed, form feed, carriage return
abbrev pub is_blank : ℕ → Bool
is_blank char = (char == 32 || char == 9) || (char == line_feed || (char == 12 || char == 13))

abbrev pub is_digit : ℕ → Bool
is_digit char = nat_le 48 char && nat_le char 57

abbrev pub is_octal : ℕ → Bool
is_octal char = nat_le 48 char && nat_le char 55

abbrev pub is_hexadecimal : ℕ → Bool
is_hexadecimal char =
    is_digit char || ((nat_le 97 char && nat_le char 102) || (nat_le 65 char && nat_le char 70))

-- `_`, or a character that starts an identifier
abbrev pub starts_name : ℕ → Bool
starts_name char = char == underscore || is_xid_start char

-- a character that continues an identifier
abbrev pub continues_name : ℕ → Bool
continues_name char = is_xid_continue char
