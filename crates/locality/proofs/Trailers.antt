-- A trailer whose entries are copied reads back as its entries.
use Rattle.std.proofs.Common.{◌≡◌, ℕ, zero, suc, ◌+◌, ◌<◌, ◌≤◌, true, false, List, [], ◌∷◌, ◌++◌, length, pos, Some, None, codes, Option, sym, refl, ap, ◌∙◌, append_assoc, arith, length-append}
use Rattle.format.specs.Bytes.{Bytes, ok, is_regular, is_white, is_delimiter, span, same}
use Rattle.format.specs.Names.{joined, decode}
use Rattle.format.specs.Space.{skip}
use Rattle.format.specs.Strings.{turns}
use Rattle.format.specs.Tokens.{open_dict, close_dict, name, mark, Token, tok, name_kind, name_token, marked, after_less, after_greater, start_at, token_at}
use Rattle.format.specs.Objects.{Obj, integer, Entries, no_entries, more_entries, Reader, plain_int, tried, trial, of_token, one, too_deep, in_array, in_dict, object_by, entries, valued, keyed, entry_at, holds, next}
use Rattle.format.specs.Sections.{no_dict, trailer_at}
use Rattle.format.specs.Writing.{decimal, Run, runs_on, is_rewritten, copied, prev_bytes, section_bytes}
use Rattle.locality.specs.Locality.{stops}
use Rattle.locality.specs.LocalityObjects.{is_number, NoRef, After}
use Rattle.locality.specs.LocalityTrailers.{FitEntry, FitEntries, entry_count, copied_entries, joined_entries, prev_entry, size_entries, new_entries, new_trailer, SmallPrev}
use Rattle.locality.proofs.Cases.{cases}
use Rattle.locality.proofs.Local.{up_to_taken}
use Rattle.locality.proofs.Decimals.{int_token, skip_decimal}
use Rattle.locality.proofs.Fits.{Fresh, fresh_more}
use Rattle.locality.proofs.Held.{no_ref_unless_int}
use Rattle.locality.proofs.Runs.{span_all}
use Rattle.locality.proofs.Tests.{or_none}

-- entries as they are written: key bytes, space, value bytes, LF
unfoldable pub laid : Entries → Bytes
laid no_entries = []
laid (more_entries k kb vb o es) = kb ++ (32 ∷ (vb ++ (10 ∷ laid es)))

lf_token : (p : ℕ) (xs : Bytes) → token_at p (10 ∷ xs) ≡ token_at (suc p) xs
unfolding token_at skip is_white
lf_token p xs = refl

skip_space : (p : ℕ) (xs : Bytes) → skip false p (32 ∷ xs) ≡ skip false (suc p) xs
unfolding skip is_white
skip_space p xs = refl

close_token : (p : ℕ) (ys : Bytes) → token_at p (10 ∷ 62 ∷ 62 ∷ ys) ≡ tok (mark close_dict) (suc p) (62 ∷ 62 ∷ ys) (suc (suc (suc p))) ys
unfolding token_at skip start_at marked after_greater is_regular is_white is_delimiter
close_token p ys = refl

space_edge : (ys : Bytes) → stops is_regular (32 ∷ ys) ≡ true
unfolding stops is_regular is_white is_delimiter
space_edge ys = refl

lf_edge : (ys : Bytes) → stops is_regular (10 ∷ ys) ≡ true
unfolding stops is_regular is_white is_delimiter
lf_edge ys = refl

-- behind a written entry stands a key or the end
laid_alone : (es : Entries) (ys : Bytes) → FitEntries es → NoRef (10 ∷ (laid es ++ (62 ∷ 62 ∷ ys)))
unfolding laid plain_int
laid_alone no_entries ys f n p = no_ref_unless_int n (token_at p (10 ∷ 62 ∷ 62 ∷ ys)) (rw (close_token p ys) refl)
laid_alone (more_entries k kb vb o es) ys f n p =
    no_ref_unless_int n (token_at p (10 ∷ ((kb ++ (32 ∷ (vb ++ (10 ∷ laid es)))) ++ (62 ∷ 62 ∷ ys))))
    (rw (append_assoc kb (32 ∷ (vb ++ (10 ∷ laid es))) (62 ∷ 62 ∷ ys))
    (ap (λ (u : Token). plain_int u.kind) (lf_token p (kb ++ ((32 ∷ (vb ++ (10 ∷ laid es))) ++ (62 ∷ 62 ∷ ys))) ∙ f.0.names (suc p) ((32 ∷ (vb ++ (10 ∷ laid es))) ++ (62 ∷ 62 ∷ ys)) (space_edge ((vb ++ (10 ∷ laid es)) ++ (62 ∷ 62 ∷ ys))))))

-- an entry that was written, and the entries behind it
entry_read : (n : ℕ) (seen : Entries) (p : ℕ) (k kb vb : Bytes) (o : Obj) (zs : Bytes) (es : Entries) (q : ℕ) (ys : Bytes) → FitEntry k kb vb o → holds k seen ≡ false → After o (10 ∷ zs) →
    entries (object_by 31) n (more_entries k kb vb o seen) (suc (suc p + length kb) + length vb) (10 ∷ zs) ≡ ok es q ys →
    entries (object_by 31) (suc n) seen p (10 ∷ (kb ++ (32 ∷ (vb ++ (10 ∷ zs))))) ≡ ok (more_entries k kb vb o es) q ys
unfolding entries entry_at next keyed valued
entry_read n seen p k kb vb o zs es q ys f h a e =
    rw (lf_token p (kb ++ (32 ∷ (vb ++ (10 ∷ zs)))))
    (rw (f.names (suc p) (32 ∷ (vb ++ (10 ∷ zs))) (space_edge (vb ++ (10 ∷ zs))))
    (rw (h, keyed)
    (rw (up_to_taken (suc p) (suc p + length kb) kb (32 ∷ (vb ++ (10 ∷ zs))) refl)
    (rw (skip_space (suc p + length kb) (vb ++ (10 ∷ zs)))
    (rw (f.stands (suc (suc p + length kb)) (10 ∷ zs))
    (rw (f.reads (suc (suc p + length kb)) zs a)
    (rw (up_to_taken (suc (suc p + length kb)) (suc (suc p + length kb) + length vb) vb (10 ∷ zs) refl)
    (rw e refl))))))))

end_read : (n : ℕ) (seen : Entries) (p : ℕ) (zs : Bytes) → entries (object_by 31) (suc n) seen p (10 ∷ 62 ∷ 62 ∷ zs) ≡ ok no_entries (p + 0 + 3) zs
unfolding entries entry_at next
end_read n seen p zs = rw (close_token p zs) (let v : suc (suc (suc p)) ≡ p + 0 + 3 = omega arith in λ i. ok no_entries (v i) zs)

-- written entries read back
pub laid_read : (es : Entries) (n : ℕ) (seen : Entries) (p : ℕ) (ys : Bytes) → FitEntries es → Fresh seen es → entry_count es < n →
    entries (object_by 31) n seen p (10 ∷ (laid es ++ (62 ∷ 62 ∷ ys))) ≡ ok es (p + length (laid es) + 3) ys
unfolding laid entry_count
laid_read es zero seen p ys f r c = absurd (omega arith)
laid_read no_entries (suc n) seen p ys f r c = end_read n seen p ys
laid_read (more_entries k kb vb o es) (suc n) seen p ys f r c =
    ap (λ zs. entries (object_by 31) (suc n) seen p (10 ∷ zs)) regroup
    ∙ entry_read n seen p k kb vb o (laid es ++ (62 ∷ 62 ∷ ys)) es (p + length (kb ++ (32 ∷ (vb ++ (10 ∷ laid es)))) + 3) ys f.0 r.0
    (record { run = λ _. lf_edge (laid es ++ (62 ∷ 62 ∷ ys)); alone = λ _. laid_alone es ys f.2 })
    (laid_read es n (more_entries k kb vb o seen) (suc (suc p + length kb) + length vb) ys f.2 (fresh_more seen es k kb vb o f.1 r.1) (omega arith)
    ∙ (let v : suc (suc p + length kb) + length vb + length (laid es) + 3 ≡ p + length (kb ++ (32 ∷ (vb ++ (10 ∷ laid es)))) + 3 = simp length-append (omega arith) in λ i. ok es (v i) ys))
  where
    regroup : (kb ++ (32 ∷ (vb ++ (10 ∷ laid es)))) ++ (62 ∷ 62 ∷ ys) ≡ kb ++ (32 ∷ (vb ++ (10 ∷ (laid es ++ (62 ∷ 62 ∷ ys)))))
    regroup = simp append_assoc

-- a key that stands for itself, before a byte that is not regular
size_names : (p : ℕ) (ys : Bytes) → stops is_regular ys ≡ true → token_at p (codes "/Size" ++ ys) ≡ tok (name (codes "Size")) p (codes "/Size" ++ ys) (p + 5) ys
unfolding token_at skip start_at marked name_token name_kind decode joined is_regular is_white is_delimiter span
size_names p ys h = rw (span_all is_regular (suc (suc (suc (suc (suc p))))) ys h) (let v : suc (suc (suc (suc (suc p)))) ≡ p + 5 = omega arith in λ i. tok (name (codes "Size")) p (codes "/Size" ++ ys) (v i) ys)

prev_names : (p : ℕ) (ys : Bytes) → stops is_regular ys ≡ true → token_at p (codes "/Prev" ++ ys) ≡ tok (name (codes "Prev")) p (codes "/Prev" ++ ys) (p + 5) ys
unfolding token_at skip start_at marked name_token name_kind decode joined is_regular is_white is_delimiter span
prev_names p ys h = rw (span_all is_regular (suc (suc (suc (suc (suc p))))) ys h) (let v : suc (suc (suc (suc (suc p)))) ≡ p + 5 = omega arith in λ i. tok (name (codes "Prev")) p (codes "/Prev" ++ ys) (v i) ys)

lf_regular : is_regular 10 ≡ false
unfolding is_regular is_white is_delimiter
lf_regular = refl

one_integer : (A D : ℕ → Reader) (p n : ℕ) (ys : Bytes) → n ≤ 2147483647 → NoRef (10 ∷ ys) → one A D p (decimal n ++ (10 ∷ ys)) ≡ ok (integer (pos n)) (p + length (decimal n)) (10 ∷ ys)
unfolding one of_token trial tried
one_integer A D p n ys h a = rw (int_token p n 10 ys h lf_regular) (rw (a n (p + length (decimal n))) refl)

-- a written number is that integer
pub integer_read : (d p n : ℕ) (ys : Bytes) → n ≤ 2147483647 → NoRef (10 ∷ ys) → object_by d p (decimal n ++ (10 ∷ ys)) ≡ ok (integer (pos n)) (p + length (decimal n)) (10 ∷ ys)
unfolding object_by
integer_read zero p n ys h a = one_integer too_deep too_deep p n ys h a
integer_read (suc d) p n ys h a = one_integer (in_array (object_by d)) (in_dict (object_by d)) p n ys h a

integer_fits : (k kb : Bytes) (n : ℕ) → n ≤ 2147483647 → ((p : ℕ) (ys : Bytes) → stops is_regular ys ≡ true → token_at p (kb ++ ys) ≡ tok (name k) p (kb ++ ys) (p + length kb) ys) → FitEntry k kb (decimal n) (integer (pos n))
unfolding is_number
integer_fits k kb n h f = record {
  names = f;
  stands = λ p ys. skip_decimal p n ys (omega arith);
  reads = λ p ys a. integer_read 31 p n ys h (a.alone refl);
}

-- Size and Prev can be written
pub size_fits : (size : ℕ) (prev : Option ℕ) → size ≤ 2147483647 → SmallPrev prev → FitEntries (size_entries size prev)
unfolding size_entries prev_entry holds same
size_fits size None h g = (integer_fits (codes "Size") (codes "/Size") size h size_names, refl, tt)
size_fits size (Some b) h g = (integer_fits (codes "Size") (codes "/Size") size h size_names, refl, (integer_fits (codes "Prev") (codes "/Prev") b g prev_names, refl, tt))

-- a key that is not written anew is neither Size nor Prev
kept_apart : (k : Bytes) (size : ℕ) (prev : Option ℕ) → is_rewritten k ≡ false → holds k (size_entries size prev) ≡ false
unfolding size_entries prev_entry holds is_rewritten
kept_apart k size None e = let a = or_none (same k (codes "Size")) (same k (codes "Prev")) e in rw a.0 refl
kept_apart k size (Some b) e = let a = or_none (same k (codes "Size")) (same k (codes "Prev")) e in rw a.0 (rw a.1 refl)

new_apart : (k : Bytes) (es fs : Entries) → holds k es ≡ false → holds k fs ≡ false → holds k (joined_entries (copied_entries es) fs) ≡ false
unfolding holds copied_entries joined_entries
new_apart k no_entries fs h g = g
new_apart k (more_entries j jb wb u es) fs h g =
    let a = or_none (same k j) (holds k es) h in
    cases (is_rewritten j)
    (λ e. rw (e, copied_entries) (new_apart k es fs a.1 g))
    (λ e. rw (e, copied_entries) (rw a.0 (new_apart k es fs a.1 g)))

joined_fit : (es fs : Entries) → ((k : Bytes) → is_rewritten k ≡ false → holds k fs ≡ false) → FitEntries es → FitEntries fs → FitEntries (joined_entries (copied_entries es) fs)
unfolding copied_entries joined_entries
joined_fit no_entries fs d f g = g
joined_fit (more_entries k kb vb o es) fs d f g =
    cases (is_rewritten k)
    (λ e. rw (e, copied_entries) (joined_fit es fs d f.2 g))
    (λ e. rw (e, copied_entries) (f.0, new_apart k es fs f.1 (d k e), joined_fit es fs d f.2 g))

-- the new trailer's entries can be written
pub new_fit : (es : Entries) (size : ℕ) (prev : Option ℕ) → FitEntries es → size ≤ 2147483647 → SmallPrev prev → FitEntries (new_entries es size prev)
unfolding new_entries
new_fit es size prev f h g = joined_fit es (size_entries size prev) (λ k e. kept_apart k size prev e) f (size_fits size prev h g)

laid_joined : (es fs : Entries) (zs : Bytes) → laid (joined_entries (copied_entries es) fs) ++ zs ≡ copied es ++ (laid fs ++ zs)
unfolding laid joined_entries copied_entries copied
laid_joined no_entries fs zs = refl
laid_joined (more_entries k kb vb o es) fs zs =
    cases (is_rewritten k)
    (λ e. rw (e, copied_entries, copied) (laid_joined es fs zs))
    (λ e. rw (e, copied_entries, copied) (simp append_assoc (rw (laid_joined es fs zs) refl)))

laid_size : (size : ℕ) (prev : Option ℕ) (zs : Bytes) → laid (size_entries size prev) ++ zs ≡ codes "/Size " ++ (decimal size ++ (codes "\n" ++ (prev_bytes prev ++ zs)))
unfolding laid size_entries prev_entry prev_bytes
laid_size size None zs = simp append_assoc refl
laid_size size (Some b) zs = simp append_assoc refl

-- the new trailer is its entries as they are written
pub laid_new : (es : Entries) (size : ℕ) (prev : Option ℕ) (ys : Bytes) → new_trailer es size prev ys ≡ codes "\n<<\n" ++ (laid (new_entries es size prev) ++ (codes ">>" ++ ys))
unfolding new_entries
laid_new es size prev ys = ap (λ zs. codes "\n<<\n" ++ zs) (ap (λ zs. copied es ++ zs) (sym (laid_size size prev (codes ">>" ++ ys))) ∙ sym (laid_joined es (size_entries size prev) (codes ">>" ++ ys)))

size_count : (size : ℕ) (prev : Option ℕ) → entry_count (size_entries size prev) ≤ 2
unfolding entry_count size_entries prev_entry
size_count size None = omega arith
size_count size (Some b) = omega arith

joined_count : (es fs : Entries) → entry_count (joined_entries (copied_entries es) fs) ≤ entry_count es + entry_count fs
unfolding entry_count copied_entries joined_entries
joined_count no_entries fs = omega arith
joined_count (more_entries k kb vb o es) fs =
    let h = joined_count es fs in cases (is_rewritten k) (λ e. rw (e, copied_entries) (omega arith)) (λ e. rw (e, copied_entries) (omega arith))

-- a section as it is written has such a trailer
pub section_trailer : (at : ℕ) (rs : List Run) (es : Entries) (size : ℕ) (prev : Option ℕ) →
    section_bytes at rs es size prev ≡ codes "xref\n" ++ runs_on rs (codes "trailer" ++ new_trailer es size prev (codes "\nstartxref\n" ++ (decimal at ++ codes "\n%%EOF\n")))
unfolding section_bytes
section_trailer at rs es size prev = refl

-- how many entries a new trailer has
new_count : (es : Entries) (size : ℕ) (prev : Option ℕ) → entry_count (new_entries es size prev) ≤ entry_count es + 2
unfolding new_entries
new_count es size prev = let a = joined_count es (size_entries size prev) in let b = size_count size prev in omega arith

fresh_none : (es : Entries) → Fresh no_entries es
unfolding holds
fresh_none no_entries = tt
fresh_none (more_entries k kb vb o es) = (refl, fresh_none es)

open_token : (p : ℕ) (zs : Bytes) → token_at p (codes "\n<<\n" ++ zs) ≡ tok (mark open_dict) (suc p) (60 ∷ 60 ∷ 10 ∷ zs) (suc (suc (suc p))) (10 ∷ zs)
unfolding token_at skip start_at marked after_less is_regular is_white is_delimiter
open_token p zs = refl

dict_read : (p : ℕ) (zs : Bytes) (es : Entries) (q : ℕ) (ys : Bytes) → entries (object_by 31) turns no_entries (suc (suc (suc p))) (10 ∷ zs) ≡ ok es q ys → trailer_at (token_at p (codes "\n<<\n" ++ zs)) ≡ ok (suc p, es) q ys
unfolding trailer_at no_dict
dict_read p zs es q ys e = rw (open_token p zs) (rw e refl)

-- the new trailer reads back as its entries
pub trailer_read : (p : ℕ) (es : Entries) (size : ℕ) (prev : Option ℕ) (ys : Bytes) → FitEntries es → entry_count es + 3 ≤ turns → size ≤ 2147483647 → SmallPrev prev →
    trailer_at (token_at p (new_trailer es size prev ys)) ≡ ok (suc p, new_entries es size prev) (p + length (new_trailer es size prev [])) ys
trailer_read p es size prev ys f c h g =
    let n : entry_count (new_entries es size prev) ≤ entry_count es + 2 = new_count es size prev in
    let few : entry_count (new_entries es size prev) < turns = omega arith in
    let len : length (new_trailer es size prev []) ≡ suc (suc (suc (suc (length (laid (new_entries es size prev) ++ codes ">>"))))) = ap length (laid_new es size prev []) in
    let two : length (laid (new_entries es size prev) ++ codes ">>") ≡ length (laid (new_entries es size prev)) + 2 = length-append (laid (new_entries es size prev)) (codes ">>") in
    ap (λ zs. trailer_at (token_at p zs)) (laid_new es size prev ys)
    ∙ dict_read p (laid (new_entries es size prev) ++ (codes ">>" ++ ys)) (new_entries es size prev) (p + length (new_trailer es size prev [])) ys
    (laid_read (new_entries es size prev) turns no_entries (suc (suc (suc p))) ys (new_fit es size prev f h g) (fresh_none (new_entries es size prev)) few
    ∙ (let v : suc (suc (suc p)) + length (laid (new_entries es size prev)) + 3 ≡ p + length (new_trailer es size prev []) = omega arith in λ i. ok (new_entries es size prev) (v i) ys))
