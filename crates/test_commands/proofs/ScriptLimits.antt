-- Scripts at the limits of scripts, and one beyond each. The first too many is asked its own shape, then refused before anything inside it.
use Rattle.std.proofs.Common.{◌≡◌, Some, None, refl}
use Rattle.std.specs.Prelude.{codes}
use Rattle.spec_script.specs.Faults.{Shape, Size}
use Rattle.test_commands.specs.Read.{fault}

eight_operands_of_trace : fault (codes "(eio 1 (main (trace 1 2 3 4 5 6 7 8)))") ≡ None
unfolding fault
eight_operands_of_trace = refl

nine_operands_of_trace : fault (codes "(eio 1 (main (trace 1 2 3 4 5 6 7 8 9)))") ≡ Some (Size 36)
unfolding fault
nine_operands_of_trace = refl

a_ninth_operand_of_a_wrong_shape : fault (codes "(eio 1 (main (trace 1 2 3 4 5 6 7 8 (plus 1))))") ≡ Some (Shape 36)
unfolding fault
a_ninth_operand_of_a_wrong_shape = refl

a_ninth_operand_with_an_unknown_name : fault (codes "(eio 1 (main (trace 1 2 3 4 5 6 7 8 (plus x 1))))") ≡ Some (Size 36)
unfolding fault
a_ninth_operand_with_an_unknown_name = refl

a_ninth_operand_that_is_an_unknown_name : fault (codes "(eio 1 (main (trace 1 2 3 4 5 6 7 8 x)))") ≡ Some (Size 36)
unfolding fault
a_ninth_operand_that_is_an_unknown_name = refl

sixty_four_branches : fault (codes "(eio 1 (main (all () () () () () () () () () () () () () () () () () () () () () () () () () () () () () () () () () () () () () () () () () () () () () () () () () () () () () () () () () () () () () () () ())))") ≡ None
unfolding fault
sixty_four_branches = refl

sixty_five_branches : fault (codes "(eio 1 (main (all () () () () () () () () () () () () () () () () () () () () () () () () () () () () () () () () () () () () () () () () () () () () () () () () () () () () () () () () () () () () () () () () ())))") ≡ Some (Size 210)
unfolding fault
sixty_five_branches = refl

a_branch_too_many_of_a_wrong_shape : fault (codes "(eio 1 (main (any () () () () () () () () () () () () () () () () () () () () () () () () () () () () () () () () () () () () () () () () () () () () () () () () () () () () () () () () () () () () () () () () 5)))") ≡ Some (Shape 210)
unfolding fault
a_branch_too_many_of_a_wrong_shape = refl

a_branch_too_many_with_a_wrong_statement : fault (codes "(eio 1 (main (any () () () () () () () () () () () () () () () () () () () () () () () () () () () () () () () () () () () () () () () () () () () () () () () () () () () () () () () () () () () () () () () () ((foo)))))") ≡ Some (Size 210)
unfolding fault
a_branch_too_many_with_a_wrong_statement = refl

eight_captured_names : fault (codes "(eio 1 (executor e 0) (main (let x0 1) (let x1 1) (let x2 1) (let x3 1) (let x4 1) (let x5 1) (let x6 1) (let x7 1) (let x8 1) (submit e 1 (x0 x1 x2 x3 x4 x5 x6 x7))))") ≡ None
unfolding fault
eight_captured_names = refl

nine_captured_names : fault (codes "(eio 1 (executor e 0) (main (let x0 1) (let x1 1) (let x2 1) (let x3 1) (let x4 1) (let x5 1) (let x6 1) (let x7 1) (let x8 1) (submit e 1 (x0 x1 x2 x3 x4 x5 x6 x7 x8))))") ≡ Some (Size 164)
unfolding fault
nine_captured_names = refl

-- Size comes before Twice and Name
a_ninth_captured_name_that_repeats : fault (codes "(eio 1 (executor e 0) (main (let x0 1) (let x1 1) (let x2 1) (let x3 1) (let x4 1) (let x5 1) (let x6 1) (let x7 1) (let x8 1) (submit e 1 (x0 x1 x2 x3 x4 x5 x6 x7 x0))))") ≡ Some (Size 164)
unfolding fault
a_ninth_captured_name_that_repeats = refl

sixty_four_names : fault (codes "(eio 1 (main (let x0 1) (let x1 1) (let x2 1) (let x3 1) (let x4 1) (let x5 1) (let x6 1) (let x7 1) (let x8 1) (let x9 1) (let x10 1) (let x11 1) (let x12 1) (let x13 1) (let x14 1) (let x15 1) (let x16 1) (let x17 1) (let x18 1) (let x19 1) (let x20 1) (let x21 1) (let x22 1) (let x23 1) (let x24 1) (let x25 1) (let x26 1) (let x27 1) (let x28 1) (let x29 1) (let x30 1) (let x31 1) (let x32 1) (let x33 1) (let x34 1) (let x35 1) (let x36 1) (let x37 1) (let x38 1) (let x39 1) (let x40 1) (let x41 1) (let x42 1) (let x43 1) (let x44 1) (let x45 1) (let x46 1) (let x47 1) (let x48 1) (let x49 1) (let x50 1) (let x51 1) (let x52 1) (let x53 1) (let x54 1) (let x55 1) (let x56 1) (let x57 1) (let x58 1) (let x59 1) (let x60 1) (let x61 1) (let x62 1) (let x63 1)))") ≡ None
unfolding fault
sixty_four_names = refl

sixty_five_names : fault (codes "(eio 1 (main (let x0 1) (let x1 1) (let x2 1) (let x3 1) (let x4 1) (let x5 1) (let x6 1) (let x7 1) (let x8 1) (let x9 1) (let x10 1) (let x11 1) (let x12 1) (let x13 1) (let x14 1) (let x15 1) (let x16 1) (let x17 1) (let x18 1) (let x19 1) (let x20 1) (let x21 1) (let x22 1) (let x23 1) (let x24 1) (let x25 1) (let x26 1) (let x27 1) (let x28 1) (let x29 1) (let x30 1) (let x31 1) (let x32 1) (let x33 1) (let x34 1) (let x35 1) (let x36 1) (let x37 1) (let x38 1) (let x39 1) (let x40 1) (let x41 1) (let x42 1) (let x43 1) (let x44 1) (let x45 1) (let x46 1) (let x47 1) (let x48 1) (let x49 1) (let x50 1) (let x51 1) (let x52 1) (let x53 1) (let x54 1) (let x55 1) (let x56 1) (let x57 1) (let x58 1) (let x59 1) (let x60 1) (let x61 1) (let x62 1) (let x63 1) (let y 1)))") ≡ Some (Size 776)
unfolding fault
sixty_five_names = refl

a_sixty_fifth_that_is_declared : fault (codes "(eio 1 (mutex m) (main (let x0 1) (let x1 1) (let x2 1) (let x3 1) (let x4 1) (let x5 1) (let x6 1) (let x7 1) (let x8 1) (let x9 1) (let x10 1) (let x11 1) (let x12 1) (let x13 1) (let x14 1) (let x15 1) (let x16 1) (let x17 1) (let x18 1) (let x19 1) (let x20 1) (let x21 1) (let x22 1) (let x23 1) (let x24 1) (let x25 1) (let x26 1) (let x27 1) (let x28 1) (let x29 1) (let x30 1) (let x31 1) (let x32 1) (let x33 1) (let x34 1) (let x35 1) (let x36 1) (let x37 1) (let x38 1) (let x39 1) (let x40 1) (let x41 1) (let x42 1) (let x43 1) (let x44 1) (let x45 1) (let x46 1) (let x47 1) (let x48 1) (let x49 1) (let x50 1) (let x51 1) (let x52 1) (let x53 1) (let x54 1) (let x55 1) (let x56 1) (let x57 1) (let x58 1) (let x59 1) (let x60 1) (let x61 1) (let x62 1) (let x63 1) (let m 1)))") ≡ Some (Size 786)
unfolding fault
a_sixty_fifth_that_is_declared = refl

-- a name that hides a variable isn't one more
a_sixty_fifth_that_hides : fault (codes "(eio 1 (main (let x0 1) (let x1 1) (let x2 1) (let x3 1) (let x4 1) (let x5 1) (let x6 1) (let x7 1) (let x8 1) (let x9 1) (let x10 1) (let x11 1) (let x12 1) (let x13 1) (let x14 1) (let x15 1) (let x16 1) (let x17 1) (let x18 1) (let x19 1) (let x20 1) (let x21 1) (let x22 1) (let x23 1) (let x24 1) (let x25 1) (let x26 1) (let x27 1) (let x28 1) (let x29 1) (let x30 1) (let x31 1) (let x32 1) (let x33 1) (let x34 1) (let x35 1) (let x36 1) (let x37 1) (let x38 1) (let x39 1) (let x40 1) (let x41 1) (let x42 1) (let x43 1) (let x44 1) (let x45 1) (let x46 1) (let x47 1) (let x48 1) (let x49 1) (let x50 1) (let x51 1) (let x52 1) (let x53 1) (let x54 1) (let x55 1) (let x56 1) (let x57 1) (let x58 1) (let x59 1) (let x60 1) (let x61 1) (let x62 1) (let x63 1) (let x0 2) (sub x1 (let x2 3))))") ≡ None
unfolding fault
a_sixty_fifth_that_hides = refl

a_sixty_fifth_behind_a_block : fault (codes "(eio 1 (main (let x0 1) (let x1 1) (let x2 1) (let x3 1) (let x4 1) (let x5 1) (let x6 1) (let x7 1) (let x8 1) (let x9 1) (let x10 1) (let x11 1) (let x12 1) (let x13 1) (let x14 1) (let x15 1) (let x16 1) (let x17 1) (let x18 1) (let x19 1) (let x20 1) (let x21 1) (let x22 1) (let x23 1) (let x24 1) (let x25 1) (let x26 1) (let x27 1) (let x28 1) (let x29 1) (let x30 1) (let x31 1) (let x32 1) (let x33 1) (let x34 1) (let x35 1) (let x36 1) (let x37 1) (let x38 1) (let x39 1) (let x40 1) (let x41 1) (let x42 1) (let x43 1) (let x44 1) (let x45 1) (let x46 1) (let x47 1) (let x48 1) (let x49 1) (let x50 1) (let x51 1) (let x52 1) (let x53 1) (let x54 1) (let x55 1) (let x56 1) (let x57 1) (let x58 1) (let x59 1) (let x60 1) (let x61 1) (let x62 1) (loop (let x63 1)) (let x63 1)))") ≡ None
unfolding fault
a_sixty_fifth_behind_a_block = refl

a_sixty_fifth_of_another_kind : fault (codes "(eio 1 (main (let x0 1) (let x1 1) (let x2 1) (let x3 1) (let x4 1) (let x5 1) (let x6 1) (let x7 1) (let x8 1) (let x9 1) (let x10 1) (let x11 1) (let x12 1) (let x13 1) (let x14 1) (let x15 1) (let x16 1) (let x17 1) (let x18 1) (let x19 1) (let x20 1) (let x21 1) (let x22 1) (let x23 1) (let x24 1) (let x25 1) (let x26 1) (let x27 1) (let x28 1) (let x29 1) (let x30 1) (let x31 1) (let x32 1) (let x33 1) (let x34 1) (let x35 1) (let x36 1) (let x37 1) (let x38 1) (let x39 1) (let x40 1) (let x41 1) (let x42 1) (let x43 1) (let x44 1) (let x45 1) (let x46 1) (let x47 1) (let x48 1) (let x49 1) (let x50 1) (let x51 1) (let x52 1) (let x53 1) (let x54 1) (let x55 1) (let x56 1) (let x57 1) (let x58 1) (let x59 1) (let x60 1) (let x61 1) (let x62 1) (let x63 1) (switch y)))") ≡ Some (Size 779)
unfolding fault
a_sixty_fifth_of_another_kind = refl

sixty_four_declarations : fault (codes "(eio 1 (mutex m0) (mutex m1) (mutex m2) (mutex m3) (mutex m4) (mutex m5) (mutex m6) (mutex m7) (mutex m8) (mutex m9) (mutex m10) (mutex m11) (mutex m12) (mutex m13) (mutex m14) (mutex m15) (mutex m16) (mutex m17) (mutex m18) (mutex m19) (mutex m20) (mutex m21) (mutex m22) (mutex m23) (mutex m24) (mutex m25) (mutex m26) (mutex m27) (mutex m28) (mutex m29) (mutex m30) (mutex m31) (mutex m32) (mutex m33) (mutex m34) (mutex m35) (mutex m36) (mutex m37) (mutex m38) (mutex m39) (mutex m40) (mutex m41) (mutex m42) (mutex m43) (mutex m44) (mutex m45) (mutex m46) (mutex m47) (mutex m48) (mutex m49) (mutex m50) (mutex m51) (mutex m52) (mutex m53) (mutex m54) (mutex m55) (mutex m56) (mutex m57) (mutex m58) (mutex m59) (mutex m60) (mutex m61) (mutex m62) (mutex m63) (main))") ≡ None
unfolding fault
sixty_four_declarations = refl

sixty_five_declarations : fault (codes "(eio 1 (mutex m0) (mutex m1) (mutex m2) (mutex m3) (mutex m4) (mutex m5) (mutex m6) (mutex m7) (mutex m8) (mutex m9) (mutex m10) (mutex m11) (mutex m12) (mutex m13) (mutex m14) (mutex m15) (mutex m16) (mutex m17) (mutex m18) (mutex m19) (mutex m20) (mutex m21) (mutex m22) (mutex m23) (mutex m24) (mutex m25) (mutex m26) (mutex m27) (mutex m28) (mutex m29) (mutex m30) (mutex m31) (mutex m32) (mutex m33) (mutex m34) (mutex m35) (mutex m36) (mutex m37) (mutex m38) (mutex m39) (mutex m40) (mutex m41) (mutex m42) (mutex m43) (mutex m44) (mutex m45) (mutex m46) (mutex m47) (mutex m48) (mutex m49) (mutex m50) (mutex m51) (mutex m52) (mutex m53) (mutex m54) (mutex m55) (mutex m56) (mutex m57) (mutex m58) (mutex m59) (mutex m60) (mutex m61) (mutex m62) (mutex m63) (mutex y) (main))") ≡ Some (Size 765)
unfolding fault
sixty_five_declarations = refl

a_declaration_too_many_of_a_wrong_shape : fault (codes "(eio 1 (mutex m0) (mutex m1) (mutex m2) (mutex m3) (mutex m4) (mutex m5) (mutex m6) (mutex m7) (mutex m8) (mutex m9) (mutex m10) (mutex m11) (mutex m12) (mutex m13) (mutex m14) (mutex m15) (mutex m16) (mutex m17) (mutex m18) (mutex m19) (mutex m20) (mutex m21) (mutex m22) (mutex m23) (mutex m24) (mutex m25) (mutex m26) (mutex m27) (mutex m28) (mutex m29) (mutex m30) (mutex m31) (mutex m32) (mutex m33) (mutex m34) (mutex m35) (mutex m36) (mutex m37) (mutex m38) (mutex m39) (mutex m40) (mutex m41) (mutex m42) (mutex m43) (mutex m44) (mutex m45) (mutex m46) (mutex m47) (mutex m48) (mutex m49) (mutex m50) (mutex m51) (mutex m52) (mutex m53) (mutex m54) (mutex m55) (mutex m56) (mutex m57) (mutex m58) (mutex m59) (mutex m60) (mutex m61) (mutex m62) (mutex m63) (mutex) (main))") ≡ Some (Shape 765)
unfolding fault
a_declaration_too_many_of_a_wrong_shape = refl

a_declaration_too_many_of_a_name_that_is_taken : fault (codes "(eio 1 (mutex m0) (mutex m1) (mutex m2) (mutex m3) (mutex m4) (mutex m5) (mutex m6) (mutex m7) (mutex m8) (mutex m9) (mutex m10) (mutex m11) (mutex m12) (mutex m13) (mutex m14) (mutex m15) (mutex m16) (mutex m17) (mutex m18) (mutex m19) (mutex m20) (mutex m21) (mutex m22) (mutex m23) (mutex m24) (mutex m25) (mutex m26) (mutex m27) (mutex m28) (mutex m29) (mutex m30) (mutex m31) (mutex m32) (mutex m33) (mutex m34) (mutex m35) (mutex m36) (mutex m37) (mutex m38) (mutex m39) (mutex m40) (mutex m41) (mutex m42) (mutex m43) (mutex m44) (mutex m45) (mutex m46) (mutex m47) (mutex m48) (mutex m49) (mutex m50) (mutex m51) (mutex m52) (mutex m53) (mutex m54) (mutex m55) (mutex m56) (mutex m57) (mutex m58) (mutex m59) (mutex m60) (mutex m61) (mutex m62) (mutex m63) (mutex m0) (main))") ≡ Some (Size 765)
unfolding fault
a_declaration_too_many_of_a_name_that_is_taken = refl

least_and_greatest_weight : fault (codes "(eio 1 (executor e 0) (main (submit e 1 ()) (submit e 100 ())))") ≡ None
unfolding fault
least_and_greatest_weight = refl

a_weight_of_none : fault (codes "(eio 1 (executor e 0) (main (submit e 0 ())))") ≡ Some (Size 38)
unfolding fault
a_weight_of_none = refl

a_weight_too_great : fault (codes "(eio 1 (executor e 0) (main (submit e 101 ())))") ≡ Some (Size 38)
unfolding fault
a_weight_too_great = refl

least_and_greatest_limit_of_a_reader : fault (codes "(eio 1 (flow f) (main (buf-read b f 1) (buf-read b f 65536)))") ≡ None
unfolding fault
least_and_greatest_limit_of_a_reader = refl

a_limit_of_none : fault (codes "(eio 1 (flow f) (main (buf-read b f 0)))") ≡ Some (Size 36)
unfolding fault
a_limit_of_none = refl

a_limit_too_great : fault (codes "(eio 1 (flow f) (main (buf-read b f 65537)))") ≡ Some (Size 36)
unfolding fault
a_limit_too_great = refl

a_negative_limit : fault (codes "(eio 1 (flow f) (main (buf-read b f -1)))") ≡ Some (Size 36)
unfolding fault
a_negative_limit = refl
