-- The table of texts with which a script starts.
use Rattle.std.proofs.Common.{◌≡◌, List, [], ◌∷◌, Some, refl}
use Rattle.std.specs.Prelude.{ℕ, codes}
use Rattle.test_commands.specs.Read.{own_texts, opening}

-- the texts that can be bound to exceptions without a text
abbrev bound_always : List (List ℕ)
bound_always =
    codes "Invalid_argument \"Switch finished!\""
    ∷ codes "Cancelled: Invalid_argument \"Switch finished!\""
    ∷ codes "Multiple [Invalid_argument \"Switch finished!\"; ...]"
    ∷ codes "Invalid_argument \"Overflow\""
    ∷ codes "Cancelled: Invalid_argument \"Overflow\""
    ∷ codes "Multiple [Invalid_argument \"Overflow\"; ...]"
    ∷ codes "Invalid_argument \"Not a number\""
    ∷ codes "Cancelled: Invalid_argument \"Not a number\""
    ∷ codes "Multiple [Invalid_argument \"Not a number\"; ...]"
    ∷ codes "Invalid_argument \"Not a text\""
    ∷ codes "Cancelled: Invalid_argument \"Not a text\""
    ∷ codes "Multiple [Invalid_argument \"Not a text\"; ...]"
    ∷ codes "Invalid_argument \"Promise already resolved\""
    ∷ codes "Cancelled: Invalid_argument \"Promise already resolved\""
    ∷ codes "Multiple [Invalid_argument \"Promise already resolved\"; ...]"
    ∷ codes "Invalid_argument \"Mutex not locked\""
    ∷ codes "Cancelled: Invalid_argument \"Mutex not locked\""
    ∷ codes "Multiple [Invalid_argument \"Mutex not locked\"; ...]"
    ∷ codes "Invalid_argument \"Closed\""
    ∷ codes "Cancelled: Invalid_argument \"Closed\""
    ∷ codes "Multiple [Invalid_argument \"Closed\"; ...]"
    ∷ codes "Invalid_argument \"Cancellation context finished!\""
    ∷ codes "Cancelled: Invalid_argument \"Cancellation context finished!\""
    ∷ codes "Multiple [Invalid_argument \"Cancellation context finished!\"; ...]"
    ∷ codes "End_of_file"
    ∷ codes "Cancelled: End_of_file"
    ∷ codes "Multiple [End_of_file; ...]"
    ∷ codes "Buffer_limit_exceeded"
    ∷ codes "Cancelled: Buffer_limit_exceeded"
    ∷ codes "Multiple [Buffer_limit_exceeded; ...]"
    ∷ codes "Poisoned"
    ∷ codes "Cancelled: Poisoned"
    ∷ codes "Multiple [Poisoned; ...]"
    ∷ codes "Exit"
    ∷ codes "Cancelled: Exit"
    ∷ codes "Multiple [Exit; ...]"
    ∷ codes "Not_first"
    ∷ codes "Cancelled: Not_first"
    ∷ codes "Multiple [Not_first; ...]" ∷ []

-- texts and names of declarations, each once; no other words
in_reading_order : own_texts (codes "(eio 1 (dir d (file \"f\" \"F\") (sub \"s\" (link \"l\" \"..\"))) (flow g (data \"x\") (fault \"y\")) (main (trace \"F\" \"z\") (let v \"d\") (try () e ((raise \"z\") (trace \"e\")))) (domain (load d \"w\")))") ≡ Some (codes "d" ∷ codes "f" ∷ codes "F" ∷ codes "s" ∷ codes "l" ∷ codes ".." ∷ codes "g" ∷ codes "x" ∷ codes "y" ∷ codes "z" ∷ codes "e" ∷ codes "w" ∷ [])
unfolding own_texts
in_reading_order = refl

no_own_texts : opening (codes "(eio 1 (main))") ≡ Some (bound_always)
unfolding opening
no_own_texts = refl

a_stream_and_texts : opening (codes "(eio 1 (stream s 1) (main (trace \"b\" \"a\" \"s\") (let b 5)))") ≡ Some (codes "s" ∷ codes "b" ∷ codes "a" ∷ bound_always)
unfolding opening
a_stream_and_texts = refl

-- failures once each, in the order of their `raise`, `cancel` and `fail`; a text that is there already stays where it is
failures : opening (codes "(eio 1 (main (switch s (fail s \"y\\n\")) (try ((raise \"x\")) e ((trace \"Exit\" e))) (sub c (cancel c \"x\") (trace \"z\"))))") ≡ Some (
    codes "y\n"
    ∷ codes "x"
    ∷ codes "Exit"
    ∷ codes "z"
    ∷ codes "Failure \"y\\n\""
    ∷ codes "Cancelled: Failure \"y\\n\""
    ∷ codes "Multiple [Failure \"y\\n\"; ...]"
    ∷ codes "Failure \"x\""
    ∷ codes "Cancelled: Failure \"x\""
    ∷ codes "Multiple [Failure \"x\"; ...]"
    ∷ codes "Invalid_argument \"Switch finished!\""
    ∷ codes "Cancelled: Invalid_argument \"Switch finished!\""
    ∷ codes "Multiple [Invalid_argument \"Switch finished!\"; ...]"
    ∷ codes "Invalid_argument \"Overflow\""
    ∷ codes "Cancelled: Invalid_argument \"Overflow\""
    ∷ codes "Multiple [Invalid_argument \"Overflow\"; ...]"
    ∷ codes "Invalid_argument \"Not a number\""
    ∷ codes "Cancelled: Invalid_argument \"Not a number\""
    ∷ codes "Multiple [Invalid_argument \"Not a number\"; ...]"
    ∷ codes "Invalid_argument \"Not a text\""
    ∷ codes "Cancelled: Invalid_argument \"Not a text\""
    ∷ codes "Multiple [Invalid_argument \"Not a text\"; ...]"
    ∷ codes "Invalid_argument \"Promise already resolved\""
    ∷ codes "Cancelled: Invalid_argument \"Promise already resolved\""
    ∷ codes "Multiple [Invalid_argument \"Promise already resolved\"; ...]"
    ∷ codes "Invalid_argument \"Mutex not locked\""
    ∷ codes "Cancelled: Invalid_argument \"Mutex not locked\""
    ∷ codes "Multiple [Invalid_argument \"Mutex not locked\"; ...]"
    ∷ codes "Invalid_argument \"Closed\""
    ∷ codes "Cancelled: Invalid_argument \"Closed\""
    ∷ codes "Multiple [Invalid_argument \"Closed\"; ...]"
    ∷ codes "Invalid_argument \"Cancellation context finished!\""
    ∷ codes "Cancelled: Invalid_argument \"Cancellation context finished!\""
    ∷ codes "Multiple [Invalid_argument \"Cancellation context finished!\"; ...]"
    ∷ codes "End_of_file"
    ∷ codes "Cancelled: End_of_file"
    ∷ codes "Multiple [End_of_file; ...]"
    ∷ codes "Buffer_limit_exceeded"
    ∷ codes "Cancelled: Buffer_limit_exceeded"
    ∷ codes "Multiple [Buffer_limit_exceeded; ...]"
    ∷ codes "Poisoned"
    ∷ codes "Cancelled: Poisoned"
    ∷ codes "Multiple [Poisoned; ...]"
    ∷ codes "Cancelled: Exit"
    ∷ codes "Multiple [Exit; ...]"
    ∷ codes "Not_first"
    ∷ codes "Cancelled: Not_first"
    ∷ codes "Multiple [Not_first; ...]" ∷ [])
unfolding opening
failures = refl
