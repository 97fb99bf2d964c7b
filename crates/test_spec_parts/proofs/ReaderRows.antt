-- Calls of a reader by the bytes that it was fed, and by the bytes to come.
use Rattle.std.proofs.Common.{◌≡◌, ℕ, List, [], ◌∷◌, true, false, None, refl}
use Rattle.std.specs.Prelude.{pos, negsuc, codes}
use Rattle.eio_value.specs.declared.flow_step.FlowStep.{FlowStep}
use Rattle.eio_value.specs.declared.flow_step.FlowStep.TheVariants.{Data, Fault, Pause}
use Rattle.eio_value.specs.Table.{text_id}
use Rattle.spec_parts.specs.BytesToCome.{Line, TakeBytes, TakeAll, Char, AtEnd, Flag, EndOfFile, BufferLimit, NeedMore, gives, leaves, Gives, Fails, answer, bytes_to_come}
use Rattle.spec_parts.specs.Readers.{Reader, new_reader, feed, finish, tried}

-- a reader that was fed these bytes, and one whose flow has ended behind them
abbrev fed : ℕ → List ℕ → Reader
fed most bytes = feed bytes (new_reader most)

abbrev ended : ℕ → List ℕ → Reader
ended most bytes = finish (fed most bytes)

-- the first two bytes are taken

two_of_three : tried (TakeBytes (pos 2)) (fed 4 (codes "abc")) ≡ gives (codes "ab") (codes "c")
two_of_three = refl

more_than_the_limit : tried (TakeBytes (pos 5)) (fed 4 (codes "abc")) ≡ leaves BufferLimit (codes "abc")
more_than_the_limit = refl

-- more than there is: not yet, and at the end never

four_of_three : tried (TakeBytes (pos 4)) (fed 4 (codes "abc")) ≡ leaves NeedMore (codes "abc")
four_of_three = refl

four_of_three_at_the_end : tried (TakeBytes (pos 4)) (ended 4 (codes "abc")) ≡ leaves EndOfFile (codes "abc")
four_of_three_at_the_end = refl

-- a number below 0 counts as 0, which takes nothing, also at the end

fewer_than_none : tried (TakeBytes (negsuc 6)) (fed 4 (codes "abc")) ≡ gives [] (codes "abc")
fewer_than_none = refl

none_at_the_end : tried (TakeBytes (pos 0)) (ended 4 []) ≡ gives [] []
none_at_the_end = refl

all_at_the_limit : tried TakeAll (ended 3 (codes "abc")) ≡ gives (codes "abc") []
all_at_the_limit = refl

all_above_the_limit : tried TakeAll (ended 2 (codes "abc")) ≡ leaves BufferLimit (codes "abc")
all_above_the_limit = refl

all_above_the_limit_before_the_end : tried TakeAll (fed 2 (codes "abc")) ≡ leaves BufferLimit (codes "abc")
all_above_the_limit_before_the_end = refl

all_before_the_end : tried TakeAll (fed 3 (codes "abc")) ≡ leaves NeedMore (codes "abc")
all_before_the_end = refl

all_of_nothing : tried TakeAll (ended 3 []) ≡ gives [] []
all_of_nothing = refl

first_char : tried Char (fed 1 (codes "ab")) ≡ gives (codes "a") (codes "b")
first_char = refl

char_at_the_end : tried Char (ended 1 []) ≡ leaves EndOfFile []
char_at_the_end = refl

at_end_not_known : tried AtEnd (fed 1 []) ≡ leaves NeedMore []
at_end_not_known = refl

at_end_of_nothing : tried AtEnd (ended 1 []) ≡ leaves (Flag true) []
at_end_of_nothing = refl

not_at_end : tried AtEnd (ended 1 (codes "a")) ≡ leaves (Flag false) (codes "a")
not_at_end = refl

-- a line may have as many bytes as the limit, its CR among them

line_at_the_limit : tried Line (fed 3 (codes "abc\nd")) ≡ gives (codes "abc") (codes "d")
line_at_the_limit = refl

line_above_the_limit : tried Line (fed 2 (codes "abc\nd")) ≡ leaves BufferLimit (codes "abc\nd")
line_above_the_limit = refl

cr_counts : tried Line (fed 3 (codes "abc\r\n")) ≡ leaves BufferLimit (codes "abc\r\n")
cr_counts = refl

one_cr_is_dropped : tried Line (fed 9 (codes "a\r\r\nb")) ≡ gives (codes "a\r") (codes "b")
one_cr_is_dropped = refl

empty_line : tried Line (fed 9 (codes "\r\n")) ≡ gives [] []
empty_line = refl

-- the last line needs no LF, and then it keeps its CR

last_line_with_cr : tried Line (ended 9 (codes "a\r")) ≡ gives (codes "a\r") []
last_line_with_cr = refl

no_last_line : tried Line (ended 9 []) ≡ leaves EndOfFile []
no_last_line = refl

line_not_known : tried Line (fed 3 (codes "abc")) ≡ leaves NeedMore (codes "abc")
line_not_known = refl

-- The same by the bytes to come

-- three lines of "a\r" and "\nb", read at two times with a pause between

cut_line : List FlowStep
cut_line = Data (codes "a\r") ∷ Pause ∷ Data (codes "\nb") ∷ []

line_across_a_cut : answer 16 Line (bytes_to_come cut_line) ≡ Gives (gives (codes "a") (codes "b"))
unfolding cut_line bytes_to_come
line_across_a_cut = refl

rest_of_the_cut : answer 16 Line (record { bytes = codes "b"; fault = None }) ≡ Gives (gives (codes "b") [])
rest_of_the_cut = refl

behind_the_cut : answer 16 Line (record { bytes = []; fault = None }) ≡ Gives (leaves EndOfFile [])
behind_the_cut = refl

-- six bytes without LF under the limit 3

long_line : answer 3 Line (bytes_to_come (Data (codes "abcdef") ∷ [])) ≡ Gives (leaves BufferLimit (codes "abcdef"))
unfolding bytes_to_come
long_line = refl

-- a fault behind "ab": what needs no byte behind it is answered, and anything else is the fault

failing : List FlowStep
failing = Data (codes "a") ∷ Data (codes "b") ∷ Fault (text_id 7) ∷ Data (codes "c\n") ∷ []

char_before_the_fault : answer 9 Char (bytes_to_come failing) ≡ Gives (gives (codes "a") (codes "b"))
unfolding failing bytes_to_come
char_before_the_fault = refl

bytes_before_the_fault : answer 9 (TakeBytes (pos 2)) (bytes_to_come failing) ≡ Gives (gives (codes "ab") [])
unfolding failing bytes_to_come
bytes_before_the_fault = refl

line_up_to_the_fault : answer 9 Line (bytes_to_come failing) ≡ Fails (text_id 7) (codes "ab")
unfolding failing bytes_to_come
line_up_to_the_fault = refl

all_up_to_the_fault : answer 9 TakeAll (bytes_to_come failing) ≡ Fails (text_id 7) (codes "ab")
unfolding failing bytes_to_come
all_up_to_the_fault = refl

limit_before_the_fault : answer 1 Line (bytes_to_come failing) ≡ Gives (leaves BufferLimit (codes "ab"))
unfolding failing bytes_to_come
limit_before_the_fault = refl

at_end_before_a_fault : answer 9 AtEnd (bytes_to_come (Fault (text_id 7) ∷ [])) ≡ Fails (text_id 7) []
unfolding bytes_to_come
at_end_before_a_fault = refl
