-- The lines of the trace, form by form, computed by the prover.
use Rattle.std.proofs.Common.{◌≡◌, ℕ, List, [], ◌∷◌, refl}
use Rattle.std.specs.Prelude.{codes, map, pos, negsuc, replicate}
use Rattle.std.specs.Fmt.{digits}
use Rattle.eio_value.specs.declared.mock_call.Said.TheVariants.{Nothing, Read, Wrote, Copied}
use Rattle.eio_value.specs.declared.value.Value.TheVariants.{Unit, Int, Text, Ctx, Switch}
use Rattle.trace_lines.specs.declared.line.Did.{Did}
use Rattle.trace_lines.specs.declared.line.Did.TheVariants as did
use Rattle.trace_lines.specs.declared.line.Said2.TheVariants as said
use Rattle.trace_lines.specs.TraceTexts.{trace_text}
use Rattle.trace_lines.proofs.RowTables.{texts, names, odd, boom, got}

-- what a move writes
abbrev written : Did → List ℕ
written did = trace_text texts names (record { stamp = 12; domain = 1; fiber = 3; did = did; reply = said.Done Unit })

-- of a text LF, CR and tab are escaped, a quote and a backslash aren't
every_value :
    written (did.Trace (got ∷ Int (negsuc 4) ∷ Unit ∷ Text odd ∷ Ctx 2 ∷ Switch 30 ∷ []))
    ≡ codes "+got -5()a\\r\\n\\t\"\\#2%30\n"
unfolding digits
every_value = refl

no_value : written (did.Trace []) ≡ codes "+\n"
no_value = refl

time : written (did.Tick (pos 1500)) ≡ codes "+mock time is now 1500\n"
unfolding digits
time = refl

nothing_said : written (did.Mock Nothing) ≡ []
nothing_said = refl

read : written (did.Mock (Read 6 odd)) ≡ codes "+f: read \"a\\r\\n\\t\\\"\\\\\"\n"
read = refl

wrote : written (did.Mock (Wrote 7 boom)) ≡ codes "+g: wrote \"boom\"\n"
wrote = refl

copied : written (did.Mock (Copied 6 7 boom)) ≡ codes "+f: read \"boom\"\n+g: wrote \"boom\"\n"
copied = refl

-- numbers without a name, and without a text
unnamed : written (did.Mock (Read 8 (record { 0 = 11 }))) ≡ codes "+: read \"\"\n"
unnamed = refl

-- any other move writes nothing
silent :
    map written
    (did.Turn ∷ did.Yield ∷ did.Sub ∷ did.Cancel 1 boom ∷ did.Fork 1 ∷ did.Add 0 got ∷ did.Submit 5 50 ∷ did.Strike 0 1 ∷ did.Got ∷ did.End ∷ did.Limit ∷ [])
    ≡ replicate 11 []
silent = refl
