-- Directories and paths.
use Rattle.std.proofs.Common.{◌≡◌, refl}
use Rattle.test_commands.specs.Run.{mocks, ok}

paths_stay_below_their_capability : mocks "(eio 1 (dir c (file \"f\" \"F\") (sub \"d\") (link \"l\" \"..\")) (main (try ((load c \"l/x\")) e ((trace e))) (try ((load c \"../x\")) e ((trace e))) (let t (load c \"d/../f\")) (trace t) (let n (read-dir c \"\")) (trace n)))" ≡ ok "+Permission_denied \"l/x\"\n+Permission_denied \"../x\"\n+F\n+d f l\n"
unfolding mocks
paths_stay_below_their_capability = refl

an_opened_directory : mocks "(eio 1 (dir c (sub \"d\" (file \"x\" \"1\"))) (main (open-dir c \"d\" k (try ((load k \"../d/x\")) e ((trace e))) (let t (load k \"x\")) (trace t))))" ≡ ok "+Permission_denied \"../d/x\"\n+1\n"
unfolding mocks
an_opened_directory = refl

-- a new directory of that name isn't the one that was opened
a_removed_directory : mocks "(eio 1 (dir c (sub \"d\")) (main (open-dir c \"d\" k (rmdir c \"d\") (try ((load k \"\")) e ((trace e))) (try ((mkdir k \"/x\")) e ((trace e))) (mkdir c \"d\") (try ((read-dir k \".\")) e ((trace e))))))" ≡ ok "+Not_found \"\"\n+Not_found \"/x\"\n+Not_found \".\"\n"
unfolding mocks
a_removed_directory = refl

things_that_are_there : mocks "(eio 1 (dir c) (main (mkdir c \"e\") (try ((mkdir c \"e\")) x ((trace x))) (try ((save c \"e\" \"\")) x ((trace x))) (save c \"n\" \"x\") (try ((save-new c \"n\" \"\")) x ((trace x))) (save c \"e/f\" \"\") (try ((rmdir c \"e\")) x ((trace x))) (try ((load c \"e\")) x ((trace x)))))" ≡ ok "+Already_exists \"e\"\n+Is_directory \"e\"\n+Already_exists \"n\"\n+Not_empty \"e\"\n+Is_directory \"e\"\n"
unfolding mocks
things_that_are_there = refl

things_that_are_not : mocks "(eio 1 (dir c (file \"n\" \"x\") (sub \"e\" (file \"f\" \"\"))) (main (unlink c \"n\") (try ((load c \"n\")) x ((trace x))) (try ((load c \"e/f/g\")) x ((trace x))) (try ((save c \"a/b\" \"\")) x ((trace x))) (try ((unlink c \"e\")) x ((trace x))) (try ((rmdir c \"e/f\")) x ((trace x))) (try ((rmdir c \"\")) x ((trace x)))))" ≡ ok "+Not_found \"n\"\n+Not_directory \"e/f/g\"\n+Not_found \"a/b\"\n+Is_directory \"e\"\n+Not_directory \"e/f\"\n+Permission_denied \"\"\n"
unfolding mocks
things_that_are_not = refl

links : mocks "(eio 1 (dir c (link \"a\" \"a\") (link \"l\" \"d\") (sub \"d\" (file \"f\" \"F\"))) (main (let k (kind c \"l\")) (trace k) (let t (load c \"l/f\")) (trace t) (try ((load c \"a\")) x ((trace x))) (unlink c \"l\") (let n (read-dir c \".\")) (trace n) (let j (kind c \"d\")) (let i (kind c \"d/f\")) (trace j i)))" ≡ ok "+link\n+F\n+Too_many_links \"a\"\n+a d\n+dirfile\n"
unfolding mocks
links = refl

a_path_that_is_no_text : mocks "(eio 1 (dir c) (main (try ((load c 5)) e ((trace e)))))" ≡ ok "+Invalid_argument \"Not a text\"\n"
unfolding mocks
a_path_that_is_no_text = refl

a_saved_file : mocks "(eio 1 (dir c) (main (save c \"n\" \"one\") (save c \"n\" \"two\") (let t (load c \"./n\")) (trace t)))" ≡ ok "+two\n"
unfolding mocks
a_saved_file = refl

a_link_that_leads_nowhere : mocks "(eio 1 (dir c (link \"l\" \"n\")) (main (try ((load c \"l\")) x ((trace x))) (save c \"l\" \"x\") (let t (load c \"n\")) (let n (read-dir c \"\")) (trace t \" \" n)))" ≡ ok "+Not_found \"l\"\n+x l n\n"
unfolding mocks
a_link_that_leads_nowhere = refl

the_directory_itself : mocks "(eio 1 (dir c (sub \"d\")) (main (try ((mkdir c \"\")) x ((trace x))) (try ((unlink c \".\")) x ((trace x))) (try ((rmdir c \"d/..\")) x ((trace x))) (try ((open-dir c \"/\" k)) x ((trace x))) (let k (kind c \"d/.\")) (trace k)))" ≡ ok "+Already_exists \"\"\n+Is_directory \".\"\n+Permission_denied \"d/..\"\n+Permission_denied \"/\"\n+dir\n"
unfolding mocks
the_directory_itself = refl

links_and_removals : mocks "(eio 1 (dir c (sub \"a\" (link \"up\" \"../b\") (sub \"b\" (file \"f\" \"1\"))) (sub \"b\" (file \"f\" \"2\") (link \"abs\" \"/a\"))) (main (let x (load c \"a/up/f\")) (trace x) (open-dir c \"a\" k (try ((load k \"up/f\")) e ((trace e))) (let y (load k \"b//./f\")) (trace y) (unlink k \"b/f\") (rmdir k \"b\") (try ((rmdir c \"a\")) e ((trace e))) (unlink c \"a/up\") (rmdir c \"a\") (try ((save k \"n\" \"x\")) e ((trace e))) (try ((kind k \"..\")) e ((trace e)))) (try ((load c \"b/abs\")) e ((trace e))) (try ((kind c \"b/abs/x\")) e ((trace e))) (try ((mkdir c \"b/abs\")) e ((trace e)))))" ≡ ok "+2\n+Permission_denied \"up/f\"\n+1\n+Not_empty \"a\"\n+Not_found \"n\"\n+Not_found \"..\"\n+Permission_denied \"b/abs\"\n+Permission_denied \"b/abs/x\"\n+Already_exists \"b/abs\"\n"
unfolding mocks
links_and_removals = refl

two_trees : mocks "(eio 1 (dir c) (dir d (link \"l\" \"\")) (main (save c \"a\" \"1\") (try ((load d \"a\")) e ((trace e))) (try ((load d \"l\")) e ((trace e))) (try ((save-new d \"l\" \"\")) e ((trace e))) (try ((mkdir d \"x/..\")) e ((trace e))) (try ((save d \"\" \"\")) e ((trace e))) (mkdir d \"x/\") (let k (kind d \"x/..\")) (let n (read-dir d \"l\")) (trace k n)))" ≡ ok "+Not_found \"a\"\n+Is_directory \"l\"\n+Already_exists \"l\"\n+Not_found \"x/..\"\n+Is_directory \"\"\n+dirl x\n"
unfolding mocks
two_trees = refl
