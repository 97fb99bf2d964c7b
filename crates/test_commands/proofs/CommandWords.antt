-- Which words have which meaning.
use Rattle.std.proofs.Common.{◌≡◌, List, [], ◌∷◌, Option, Some, None, refl}
use Rattle.std.specs.Prelude.{ℕ, codes}
use Rattle.spec_script.specs.declared.Command.{Command}
use Rattle.spec_script.specs.declared.Command.TheVariants as command
use Rattle.spec_script.specs.declared.Feature.TheVariants as feature
use Rattle.spec_script.specs.Features.{all_built}
use Rattle.spec_script.specs.Words.{meaning}

-- the meaning of no word, of one, of two and of three, where all is built
no_word : Option Command
no_word = meaning all_built []

one : List ℕ → Option Command
one a = meaning all_built (a ∷ [])

two : List ℕ → List ℕ → Option Command
two a b = meaning all_built (a ∷ b ∷ [])

three : List ℕ → List ℕ → List ℕ → Option Command
three a b c = meaning all_built (a ∷ b ∷ c ∷ [])

no_words : no_word ≡ None
unfolding no_word meaning
no_words = refl

mock : one (codes "mock") ≡ Some (command.Mock 1000000)
unfolding one meaning
mock = refl

mock_with_steps : three (codes "mock") (codes "--steps") (codes "10") ≡ Some (command.Mock 10)
unfolding three meaning
mock_with_steps = refl

mock_with_steps_in_one_word : two (codes "mock") (codes "--steps=10") ≡ Some (command.Mock 10)
unfolding two meaning
mock_with_steps_in_one_word = refl

least_steps : three (codes "mock") (codes "--steps") (codes "1") ≡ Some (command.Mock 1)
unfolding three meaning
least_steps = refl

most_steps : two (codes "mock") (codes "--steps=1000000") ≡ Some (command.Mock 1000000)
unfolding two meaning
most_steps = refl

too_many_steps : two (codes "mock") (codes "--steps=1000001") ≡ None
unfolding two meaning
too_many_steps = refl

no_steps : three (codes "mock") (codes "--steps") (codes "0") ≡ None
unfolding three meaning
no_steps = refl

steps_with_a_leading_zero : three (codes "mock") (codes "--steps") (codes "01") ≡ None
unfolding three meaning
steps_with_a_leading_zero = refl

negative_steps : three (codes "mock") (codes "--steps") (codes "-1") ≡ None
unfolding three meaning
negative_steps = refl

steps_with_a_plus : three (codes "mock") (codes "--steps") (codes "+1") ≡ None
unfolding three meaning
steps_with_a_plus = refl

steps_without_a_number : two (codes "mock") (codes "--steps") ≡ None
unfolding two meaning
steps_without_a_number = refl

empty_steps : two (codes "mock") (codes "--steps=") ≡ None
unfolding two meaning
empty_steps = refl

steps_that_are_no_number : three (codes "mock") (codes "--steps") (codes "ten") ≡ None
unfolding three meaning
steps_that_are_no_number = refl

part_of_the_option : three (codes "mock") (codes "--step") (codes "10") ≡ None
unfolding three meaning
part_of_the_option = refl

the_option_of_domains : three (codes "mock") (codes "--lines") (codes "10") ≡ None
unfolding three meaning
the_option_of_domains = refl

two_dashes : three (codes "mock") (codes "--") (codes "x") ≡ None
unfolding three meaning
two_dashes = refl

help : two (codes "mock") (codes "--help") ≡ None
unfolding two meaning
help = refl

short_help : two (codes "mock") (codes "-h") ≡ None
unfolding two meaning
short_help = refl

domains : one (codes "domains") ≡ Some (command.Domains 100000)
unfolding one meaning
domains = refl

domains_with_lines : three (codes "domains") (codes "--lines") (codes "2") ≡ Some (command.Domains 2)
unfolding three meaning
domains_with_lines = refl

domains_with_lines_in_one_word : two (codes "domains") (codes "--lines=100000") ≡ Some (command.Domains 100000)
unfolding two meaning
domains_with_lines_in_one_word = refl

too_many_lines : three (codes "domains") (codes "--lines") (codes "100001") ≡ None
unfolding three meaning
too_many_lines = refl

the_option_of_mock : three (codes "domains") (codes "--steps") (codes "2") ≡ None
unfolding three meaning
the_option_of_mock = refl

check : one (codes "check") ≡ Some command.Check
unfolding one meaning
check = refl

check_and_more : two (codes "check") (codes "x") ≡ None
unfolding two meaning
check_and_more = refl

print : one (codes "print") ≡ Some command.Print
unfolding one meaning
print = refl

print_and_more : two (codes "print") (codes "--help") ≡ None
unfolding two meaning
print_and_more = refl

load : one (codes "load") ≡ None
unfolding one meaning
load = refl

load_a_number : two (codes "load") (codes "1000") ≡ Some (command.Load 1000)
unfolding two meaning
load_a_number = refl

load_too_many : two (codes "load") (codes "1001") ≡ None
unfolding two meaning
load_too_many = refl

load_none : two (codes "load") (codes "0") ≡ None
unfolding two meaning
load_none = refl

load_with_a_leading_zero : two (codes "load") (codes "01") ≡ None
unfolding two meaning
load_with_a_leading_zero = refl

load_two_numbers : three (codes "load") (codes "1") (codes "2") ≡ None
unfolding three meaning
load_two_numbers = refl

verify : one (codes "verify") ≡ Some (command.Verify 100000)
unfolding one meaning
verify = refl

verify_with_lines : three (codes "verify") (codes "--lines") (codes "2") ≡ Some (command.Verify 2)
unfolding three meaning
verify_with_lines = refl

verify_with_lines_in_one_word : two (codes "verify") (codes "--lines=100000") ≡ Some (command.Verify 100000)
unfolding two meaning
verify_with_lines_in_one_word = refl

verify_with_the_least_lines : two (codes "verify") (codes "--lines=1") ≡ Some (command.Verify 1)
unfolding two meaning
verify_with_the_least_lines = refl

verify_with_too_many_lines : two (codes "verify") (codes "--lines=100001") ≡ None
unfolding two meaning
verify_with_too_many_lines = refl

verify_with_no_lines : three (codes "verify") (codes "--lines") (codes "0") ≡ None
unfolding three meaning
verify_with_no_lines = refl

verify_without_a_number : two (codes "verify") (codes "--lines") ≡ None
unfolding two meaning
verify_without_a_number = refl

verify_with_the_option_of_mock : three (codes "verify") (codes "--steps") (codes "2") ≡ None
unfolding three meaning
verify_with_the_option_of_mock = refl

expand : one (codes "expand") ≡ Some command.Expand
unfolding one meaning
expand = refl

expand_and_more : two (codes "expand") (codes "x") ≡ None
unfolding two meaning
expand_and_more = refl

paths : one (codes "paths") ≡ Some command.Paths
unfolding one meaning
paths = refl

paths_and_more : two (codes "paths") (codes "--help") ≡ None
unfolding two meaning
paths_and_more = refl

migrate : one (codes "migrate") ≡ Some command.Migrate
unfolding one meaning
migrate = refl

migrate_and_more : two (codes "migrate") (codes "2") ≡ None
unfolding two meaning
migrate_and_more = refl

an_unknown_word : one (codes "mocks") ≡ None
unfolding one meaning
an_unknown_word = refl

an_empty_word : one (codes "") ≡ None
unfolding one meaning
an_empty_word = refl

-- a command that isn't built has no meaning
mock_among_the_first : meaning (feature.FirstForms ∷ []) (codes "mock" ∷ []) ≡ Some (command.Mock 1000000)
unfolding meaning
mock_among_the_first = refl

steps_before_their_time : meaning (feature.FirstForms ∷ feature.Reading ∷ []) (codes "mock" ∷ codes "--steps" ∷ codes "10" ∷ []) ≡ None
unfolding meaning
steps_before_their_time = refl

steps_in_their_time : meaning (feature.FirstForms ∷ feature.Steps ∷ []) (codes "mock" ∷ codes "--steps" ∷ codes "10" ∷ []) ≡ Some (command.Mock 10)
unfolding meaning
steps_in_their_time = refl

check_before_the_reading : meaning (feature.FirstForms ∷ []) (codes "check" ∷ []) ≡ None
unfolding meaning
check_before_the_reading = refl

load_before_the_streams : meaning (feature.FirstForms ∷ feature.Reading ∷ []) (codes "load" ∷ codes "1" ∷ []) ≡ None
unfolding meaning
load_before_the_streams = refl

domains_before_their_time : meaning (feature.FirstForms ∷ feature.Reading ∷ []) (codes "domains" ∷ []) ≡ None
unfolding meaning
domains_before_their_time = refl

-- what the words mean where these are built, as in the program of today
among_the_built : List (List ℕ) → Option Command
among_the_built words = meaning (feature.FirstForms ∷ feature.Reading ∷ feature.Steps ∷ feature.Exceptions ∷ feature.Switches ∷ feature.Groups ∷ []) words

verify_before_the_histories : among_the_built (codes "verify" ∷ []) ≡ None
unfolding among_the_built meaning
verify_before_the_histories = refl

verify_with_lines_before_the_histories : among_the_built (codes "verify" ∷ codes "--lines" ∷ codes "2" ∷ []) ≡ None
unfolding among_the_built meaning
verify_with_lines_before_the_histories = refl

expand_before_the_lists : among_the_built (codes "expand" ∷ []) ≡ None
unfolding among_the_built meaning
expand_before_the_lists = refl

paths_before_the_folders : among_the_built (codes "paths" ∷ []) ≡ None
unfolding among_the_built meaning
paths_before_the_folders = refl

migrate_before_the_versions : among_the_built (codes "migrate" ∷ []) ≡ None
unfolding among_the_built meaning
migrate_before_the_versions = refl

verify_in_its_time : meaning (feature.Histories ∷ []) (codes "verify" ∷ codes "--lines=2" ∷ []) ≡ Some (command.Verify 2)
unfolding meaning
verify_in_its_time = refl

expand_in_its_time : meaning (feature.Lists ∷ []) (codes "expand" ∷ []) ≡ Some command.Expand
unfolding meaning
expand_in_its_time = refl

paths_in_their_time : meaning (feature.Folders ∷ []) (codes "paths" ∷ []) ≡ Some command.Paths
unfolding meaning
paths_in_their_time = refl

migrate_in_its_time : meaning (feature.Versions ∷ []) (codes "migrate" ∷ []) ≡ Some command.Migrate
unfolding meaning
migrate_in_its_time = refl

-- directories in scripts are another feature than the command
paths_beside_the_forms : meaning (feature.Paths ∷ []) (codes "paths" ∷ []) ≡ None
unfolding meaning
paths_beside_the_forms = refl

mock_before_all : meaning [] (codes "mock" ∷ []) ≡ None
unfolding meaning
mock_before_all = refl
