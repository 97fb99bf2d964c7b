-- The kinds of bytes that the notation tells apart, by their numbers in ASCII.
use Rattle.std.specs.Prelude.{ℕ, Bool, ◌&&◌, ◌||◌, ◌==◌, nat_le, not}

abbrev pub tab : ℕ
tab = 9

abbrev pub line_feed : ℕ
line_feed = 10

abbrev pub carriage_return : ℕ
carriage_return = 13

abbrev pub space : ℕ
space = 32

abbrev pub quote : ℕ
quote = 34

abbrev pub open_paren : ℕ
open_paren = 40

abbrev pub close_paren : ℕ
close_paren = 41

abbrev pub minus : ℕ
minus = 45

abbrev pub slash : ℕ
slash = 47

abbrev pub digit_zero : ℕ
digit_zero = 48

abbrev pub semicolon : ℕ
semicolon = 59

abbrev pub backslash : ℕ
backslash = 92

abbrev pub underscore : ℕ
underscore = 95

abbrev pub letter_n : ℕ
letter_n = 110

abbrev pub letter_r : ℕ
letter_r = 114

abbrev pub letter_t : ℕ
letter_t = 116

-- between two trees: space, tab, LF or CR
abbrev pub is_gap_byte : ℕ → Bool
is_gap_byte b = b == space || b == tab || b == line_feed || b == carriage_return

-- `0` to `9`
abbrev pub is_digit : ℕ → Bool
is_digit b = nat_le 48 b && nat_le b 57

-- `a` to `z`
abbrev pub is_letter : ℕ → Bool
is_letter b = nat_le 97 b && nat_le b 122

-- of a word or a number: a letter, a digit, `-` or `_`
abbrev pub is_run_byte : ℕ → Bool
is_run_byte b = is_letter b || is_digit b || b == minus || b == underscore

-- stands for itself in a text: from space to `~`, and neither a quote nor a backslash
abbrev pub is_plain : ℕ → Bool
is_plain b = nat_le 32 b && nat_le b 126 && not (b == quote) && not (b == backslash)

-- has an escape: LF, CR, tab, quote or backslash
abbrev pub has_escape : ℕ → Bool
has_escape b = b == line_feed || b == carriage_return || b == tab || b == quote || b == backslash
