-- What the threads of the sessions find and make, put together.
use Rattle.std.proofs.Common.{arith, ◌≡◌, ◌∙◌, sym, ap, subst, ℕ, zero, suc, ◌+◌, ◌<◌, add-one, Result, Ok, Err, IfOk}
use Rattle.std.proofs.Common.{IsOkAnd, List, [], ◌∷◌, ◌++◌, append_assoc, append-nil, drop, drop-cons, get_or, length}
use Rattle.std.proofs.lemmas.Grind.{flat_map-append}
use Rattle.std.specs.List.{flat_map}
use Rattle.camel_audit.proofs.PartLemmas.{passes_whole}
use Rattle.camel_audit.specs.Audit.{Passes, PassesInPart, is_in_part}
use Rattle.camel_audit.specs.declared.transcript.Entry.{Entry}
use Rattle.camel_tbcd.specs.declared.profile.Profile.{Profile}
use Rattle.camel_rows.specs.declared.subscriber.update.Update.{Update}
use Rattle.camel_replay_lib.specs.ThreadsOutput.{session_text, sessions_text}

-- the text of one more element, behind those of others
one_more : {X : Type 0} (items : X → List ℕ) (xs : List X) (x : X) (text rest : List ℕ) → items x ≡ text
    → flat_map items (xs ++ x ∷ []) ++ rest ≡ flat_map items xs ++ (text ++ rest)
one_more items xs x text rest is = ap (λ t. t ++ rest) (flat_map-append items xs (x ∷ [])) ∙ append_assoc (flat_map items xs) (items x ++ []) rest
    ∙ ap (λ t. flat_map items xs ++ (t ++ rest)) (append-nil (items x) ∙ is)

-- the text of one session more comes of one thread more
pub text_more : {X : Type 0} (text_of : X → List ℕ) (started : List X) (thread : X) (session : ℕ) (transcripts : List (List Entry)) (entries : List Entry)
    (whole : List ℕ) → session < length transcripts → entries ≡ get_or transcripts session entries → text_of thread ≡ session_text session entries
    → flat_map text_of started ++ sessions_text session (drop session transcripts) ≡ whole
    → flat_map text_of (started ++ thread ∷ []) ++ sessions_text (session + 1) (drop (session + 1) transcripts) ≡ whole
text_more text_of started thread session transcripts entries whole small there text so_far =
    let rest = sessions_text (session + 1) (drop (session + 1) transcripts) in
    let first : drop session transcripts ≡ entries ∷ drop (session + 1) transcripts =
    rw add-one (drop-cons transcripts session entries small ∙ ap (λ e. e ∷ drop (suc session) transcripts) (sym there)) in
    one_more text_of started thread (session_text session entries) rest text
    ∙ ap (λ ts. flat_map text_of started ++ sessions_text session ts) (sym first) ∙ so_far

-- one text more behind those so far
pub lines_more : {D V E : Type 0} (texts_of : D → List V) (items : V → List ℕ) (first : Result D E) (second : Result V E) (both : Result D E)
    (more left whole : List ℕ) → IfOk both (λ all. IsOkAnd first (λ start. IsOkAnd second (λ last. texts_of all ≡ texts_of start ++ last ∷ [])))
    → IfOk first (λ start. flat_map items (texts_of start) ++ (more ++ left) ≡ whole) → IfOk second (λ last. items last ≡ more)
    → IfOk both (λ all. flat_map items (texts_of all) ++ left ≡ whole)
lines_more texts_of items first second (Err why) more left whole is so_far text = tt
lines_more texts_of items (Err why) second (Ok all) more left whole is so_far text = absurd is
lines_more texts_of items (Ok start) (Err why) (Ok all) more left whole is so_far text = absurd is
lines_more texts_of items (Ok start) (Ok last) (Ok all) more left whole is so_far text =
    ap (λ ts. flat_map items ts ++ left) is ∙ one_more items (texts_of start) last more left text ∙ so_far

-- the caller's part and one for each session are all parts
pub parts_pass : (sessions : ℕ) (profile : Profile) (updates : List Update) (transcripts : List (List Entry))
    → PassesInPart (is_in_part (sessions + 1) 0) profile updates transcripts
    → ((session : ℕ) → session < sessions → PassesInPart (is_in_part (sessions + 1) (session + 1)) profile updates transcripts)
    → Passes profile updates transcripts
parts_pass sessions profile updates transcripts own others = passes_whole (sessions + 1) (omega arith) profile updates transcripts each
  where
    each : (part : ℕ) → part < sessions + 1 → PassesInPart (is_in_part (sessions + 1) part) profile updates transcripts
    each zero within = own
    each (suc session) within =
        let next : session + 1 ≡ suc session = omega arith in
        subst (λ (part : ℕ). PassesInPart (is_in_part (sessions + 1) part) profile updates transcripts) next (others session (omega (arith, within)))
