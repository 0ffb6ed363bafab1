-- The dictionary of a trailer: what is read is what the bytes are.
use Rattle.std.proofs.Common.{◌≡◌, ℕ, suc, ◌+◌, ◌<◌, false, eqb, [], ◌∷◌, ◌++◌, length, None, sym, refl, ap, ◌∙◌, subst, append-nil, arith, length-append}
use Rattle.std.proofs.lemmas.Bool.{eqb-true}
use Rattle.format.specs.Bytes.{Bytes, ok, then, is_white, is_delimiter, is_regular, span}
use Rattle.format.specs.Names.{Decoded, decoded, wrong_hash, decode, plain}
use Rattle.format.specs.Numbers.{Numeral, whole, fraction, past_bound, no_number, starts_number, numeral}
use Rattle.format.specs.Objects.{dict, Entries, no_entries, mark_obj, of_token, entries, one, in_dict, object_by, object}
use Rattle.format.specs.Sections.{no_dict, trailer_at}
use Rattle.format.specs.Space.{skip}
use Rattle.format.specs.Strings.{turns, Span, closed, unclosed, too_deep_at, broken_at, string, hex_string}
use Rattle.format.specs.Tokens.{open_array, close_array, open_dict, close_dict, Flaw, stray, bad_hex, Kind, int, real, name, text, hex, mark, word, ended, flawed, Token, tok, string_token, after_less, after_greater, name_kind, name_token, marked, numeral_kind, run_kind, run_token, start_at, token_at}
use Rattle.locality.proofs.Cases.{cases, cases_o}
use Rattle.locality.proofs.LocalTrailers.{trailer_local}
use Rattle.locality.proofs.Tests.{clash}
use Rattle.sections.proofs.Local.{not_bad, then_ok}
use Rattle.rules.specs.Forms.{DictionaryAt}
use Rattle.grammar.specs.Gaps.{Gap}
use Rattle.grammar.proofs.Trees.{objects_are_spelled}
use Rattle.grammar.proofs.Gaps.{gap_skips, skip_gap}

-- two marks `<` are a token, whatever follows
open_token : (p : ℕ) (ys : Bytes) → token_at p (60 ∷ 60 ∷ ys) ≡ tok (mark open_dict) p (60 ∷ 60 ∷ ys) (suc (suc p)) ys
unfolding token_at skip is_white start_at is_regular is_delimiter marked after_less
open_token p ys = refl

-- a token that opens a dictionary is two marks `<`
abbrev Opens : Bytes → Type 0
Opens xs = (ys : Bytes) × (xs ≡ 60 ∷ 60 ∷ ys)

string_no : {P : Type 0} (k : Bytes → Kind) (f : ℕ → Flaw) (p : ℕ) (xs : Bytes) (s : Span) → ((w : Bytes) → k w ≡ mark open_dict → P) → (string_token k f p xs s).kind ≡ mark open_dict → P
unfolding string_token
string_no k f p xs (closed q ys) g e = g _ e
string_no k f p xs unclosed g e = clash (cc)
string_no k f p xs (too_deep_at q) g e = clash (cc)
string_no k f p xs (broken_at q) g e = clash (cc)

name_no : {P : Type 0} (d : Decoded) → name_kind d ≡ mark open_dict → P
unfolding name_kind
name_no (decoded d) e = clash (cc)
name_no (wrong_hash q) e = clash (cc)

number_no : {P : Type 0} (w : Bytes) (n : Numeral) → numeral_kind w n ≡ mark open_dict → P
unfolding numeral_kind
number_no w (whole u z) e = clash (cc)
number_no w fraction e = clash (cc)
number_no w past_bound e = clash (cc)
number_no w (no_number q) e = clash (cc)

run_no : {P : Type 0} (p x : ℕ) (run : Bytes) → run_kind p x run ≡ mark open_dict → P
unfolding run_kind
run_no p x run e = cases (starts_number x) (λ a. number_no run (numeral p run) (rw (a, run_kind) at e)) (λ a. let f : word run ≡ mark open_dict = rw (a, run_kind) at e in clash (cc))

less_opens : (p x : ℕ) (xs : Bytes) → x ≡ 60 → (after_less p x xs).kind ≡ mark open_dict → Opens (x ∷ xs)
unfolding after_less
less_opens p x [] q e = clash (cc)
less_opens p x (y ∷ ys) q e =
    cases (eqb y 60)
    (λ a. let r : y ≡ 60 = eqb-true y 60 a in (ys, λ i. q i ∷ r i ∷ ys))
    (λ a. string_no hex bad_hex p (x ∷ y ∷ ys) (hex_string (suc p) (y ∷ ys)) (λ w f. clash (cc)) (rw (a, after_less) at e))

greater_no : {P : Type 0} (p x : ℕ) (xs : Bytes) → (after_greater p x xs).kind ≡ mark open_dict → P
unfolding after_greater
greater_no p x [] e = clash (cc)
greater_no p x (y ∷ ys) e =
    cases (eqb y 62)
    (λ a. let f : mark close_dict ≡ mark open_dict = rw (a, after_greater) at e in clash (cc))
    (λ a. let f : flawed stray ≡ mark open_dict = rw (a, after_greater) at e in clash (cc))

marked_opens : (p x : ℕ) (xs : Bytes) → (marked p x xs).kind ≡ mark open_dict → Opens (x ∷ xs)
unfolding marked name_token
marked_opens p x xs e =
    cases (eqb x 47)
    (λ a. name_no (decode plain (suc p) (span is_regular (suc p) xs).0) (rw (a, marked) at e))
    (λ a.
    cases (eqb x 40)
    (λ b. string_no text (λ q. stray) p (x ∷ xs) (string p xs) (λ w f. clash (cc)) (rw (a, b, marked) at e))
    (λ b.
    cases (eqb x 60)
    (λ c. less_opens p x xs (eqb-true x 60 c) (rw (a, b, c, marked) at e))
    (λ c.
    cases (eqb x 62)
    (λ d. greater_no p x xs (rw (a, b, c, d, marked) at e))
    (λ d.
    cases (eqb x 91)
    (λ g. let f : mark open_array ≡ mark open_dict = rw (a, b, c, d, g, marked) at e in clash (cc))
    (λ g.
    cases (eqb x 93)
    (λ h. let f : mark close_array ≡ mark open_dict = rw (a, b, c, d, g, h, marked) at e in clash (cc))
    (λ h. let f : flawed stray ≡ mark open_dict = rw (a, b, c, d, g, h, marked) at e in clash (cc)))))))

start_opens : (p : ℕ) (xs : Bytes) → (start_at p xs).kind ≡ mark open_dict → Opens xs
unfolding start_at run_token
start_opens p [] e = clash (cc)
start_opens p (x ∷ xs) e =
    cases (is_regular x)
    (λ a. run_no p x (x ∷ (span is_regular (suc p) xs).0) (rw (a, start_at) at e))
    (λ a. marked_opens p x xs (rw (a, start_at) at e))

token_opens : (p : ℕ) (xs : Bytes) → (token_at p xs).kind ≡ mark open_dict → Opens (skip false p xs).1
unfolding token_at
token_opens p xs e = start_opens (skip false p xs).0 (skip false p xs).1 e

-- behind white space and comments a token is the same
token_behind : {g : Bytes} → Gap g → (p : ℕ) (ys : Bytes) → token_at p (g ++ ys) ≡ token_at (p + length g) ys
unfolding token_at
token_behind h p ys = ap (λ (s : ℕ × Bytes). start_at s.0 s.1) (gap_skips h p ys)

-- a dictionary read as an object, and as its entries
object_entries : (d p : ℕ) (ys : Bytes) → object_by (suc d) p (60 ∷ 60 ∷ ys) ≡ then (entries (object_by d) turns no_entries (suc (suc p)) ys) (λ es q zs. ok (dict es) q zs)
unfolding object_by one token_at skip is_white start_at is_regular is_delimiter marked after_less of_token mark_obj in_dict
object_entries d p ys = refl

trailer_entries : (p : ℕ) (ys : Bytes) → trailer_at (token_at p (60 ∷ 60 ∷ ys)) ≡ then (entries (object_by 31) turns no_entries (suc (suc p)) ys) (λ es q zs. ok (p, es) q zs)
unfolding trailer_at no_dict token_at skip is_white start_at is_regular is_delimiter marked after_less
trailer_entries p ys = refl

object_is : (p : ℕ) (ys : Bytes) → object p (60 ∷ 60 ∷ ys) ≡ then (entries (object_by 31) turns no_entries (suc (suc p)) ys) (λ es q zs. ok (dict es) q zs)
unfolding object
object_is p ys = object_entries 31 p ys

dict_once : {es fs : Entries} → dict es ≡ dict fs → es ≡ fs
dict_once e = cc

trailer_object : (p : ℕ) (ys : Bytes) (s : ℕ) (es : Entries) (q : ℕ) (rest : Bytes) → trailer_at (token_at p (60 ∷ 60 ∷ ys)) ≡ ok (s, es) q rest → object p (60 ∷ 60 ∷ ys) ≡ ok (dict es) q rest
trailer_object p ys s es q rest e =
    then_ok (entries (object_by 31) turns no_entries (suc (suc p)) ys) (λ fs r zs. ok (p, fs) r zs) (sym (trailer_entries p ys) ∙ e)
    (λ fs r zs a b.
    let w : ◌≡◌ {A = ℕ × Entries} (p, fs) (s, es) = cc in
    let u : r ≡ q = cc in
    let v : zs ≡ rest = cc in
    object_is p ys ∙ rw a (λ i. ok (dict (w i).1) (u i) (v i)))

object_trailer : (p : ℕ) (ys : Bytes) (es : Entries) (q : ℕ) (rest : Bytes) → object p (60 ∷ 60 ∷ ys) ≡ ok (dict es) q rest → trailer_at (token_at p (60 ∷ 60 ∷ ys)) ≡ ok (p, es) q rest
object_trailer p ys es q rest e =
    then_ok (entries (object_by 31) turns no_entries (suc (suc p)) ys) (λ fs r zs. ok (dict fs) r zs) (sym (object_is p ys) ∙ e)
    (λ fs r zs a b.
    let w : dict fs ≡ dict es = cc in
    let x : fs ≡ es = dict_once w in
    let u : r ≡ q = cc in
    let v : zs ≡ rest = cc in
    trailer_entries p ys ∙ rw a (λ i. ok (p, x i) (u i) (v i)))

opens_kind : (p : ℕ) (k : Kind) → no_dict p k ≡ None → k ≡ mark open_dict
unfolding no_dict
opens_kind p (mark open_dict) e = refl
opens_kind p (mark close_dict) e = clash (cc)
opens_kind p (mark open_array) e = clash (cc)
opens_kind p (mark close_array) e = clash (cc)
opens_kind p (word w) e = clash (cc)
opens_kind p (int u z) e = clash (cc)
opens_kind p (real w) e = clash (cc)
opens_kind p (name d) e = clash (cc)
opens_kind p (text w) e = clash (cc)
opens_kind p (hex w) e = clash (cc)
opens_kind p ended e = clash (cc)
opens_kind p (flawed f) e = clash (cc)

trailer_kind : (t : Token) (s : ℕ) (es : Entries) (q : ℕ) (rest : Bytes) → trailer_at t ≡ ok (s, es) q rest → t.kind ≡ mark open_dict
unfolding trailer_at
trailer_kind t s es q rest e =
    cases_o (no_dict t.from t.kind)
    (λ a. opens_kind t.from t.kind a)
    (λ f a. not_bad (rw (a, trailer_at) at e))

-- a trailer's dictionary that was taken, and the white space and comments before it
pub record TrailerShape (p : ℕ) (xs : Bytes) (s : ℕ) (es : Entries) (q : ℕ) (rest : Bytes) : Type 0 where
  pub lead : Bytes
  pub dictionary : Bytes
  pub leads : Gap lead
  pub is : DictionaryAt s es dictionary
  pub parts : xs ≡ lead ++ (dictionary ++ rest)
  pub starts : s ≡ p + length lead
  pub to : q ≡ s + length dictionary

-- what reads as a dictionary begins with both marks
first_two : (d : Bytes) (ys rest : Bytes) (es : Entries) (m n : ℕ) → 60 ∷ 60 ∷ ys ≡ d ++ rest → trailer_at (token_at m d) ≡ ok (n, es) (m + length d) [] → Opens d
unfolding trailer_at no_dict token_at skip is_white start_at is_regular is_delimiter marked after_less
first_two [] ys rest es m n e h = not_bad h
first_two (x ∷ []) ys rest es m n e h =
    let a : 60 ≡ x = cc in
    not_bad (subst (λ (z : ℕ). trailer_at (token_at m (z ∷ [])) ≡ ok (n, es) (m + 1) []) (sym a) h)
first_two (x ∷ y ∷ d) ys rest es m n e h =
    let a : 60 ≡ x = cc in
    let b : 60 ≡ y = cc in
    (d, λ i. sym a i ∷ sym b i ∷ d)

-- a dictionary read at its `<<`
record DictionaryShape (m : ℕ) (xs : Bytes) (s : ℕ) (es : Entries) (q : ℕ) (rest : Bytes) : Type 0 where
  own : Bytes
  is : DictionaryAt s es own
  parts : xs ≡ own ++ rest
  starts : s ≡ m
  to : q ≡ s + length own

dictionary_shape : (m : ℕ) (ys : Bytes) (s : ℕ) (es : Entries) (q : ℕ) (rest : Bytes) → length (60 ∷ 60 ∷ ys) < turns → trailer_at (token_at m (60 ∷ 60 ∷ ys)) ≡ ok (s, es) q rest → DictionaryShape m (60 ∷ 60 ∷ ys) s es q rest
dictionary_shape m ys s es q rest small e =
    let l = trailer_local m (60 ∷ 60 ∷ ys) s es q rest e in
    let b : s ≡ m =
    then_ok (entries (object_by 31) turns no_entries (suc (suc m)) ys) (λ fs r zs. ok (m, fs) r zs) (sym (trailer_entries m ys) ∙ e)
    (λ fs r zs a c. let w : ◌≡◌ {A = ℕ × Entries} (m, fs) (s, es) = cc in sym (ap (λ (z : ℕ × Entries). z.0) w)) in
    let h : trailer_at (token_at m l.taken) ≡ ok (m + l.lead, es) (m + length l.taken) [] = ap (λ z. trailer_at (token_at m z)) (sym (append-nil l.taken)) ∙ l.again m [] in
    let o = first_two l.taken ys rest es m (m + l.lead) l.parts h in
    let g : object m l.taken ≡ ok (dict es) (m + length l.taken) [] =
    ap (object m) o.1 ∙ trailer_object m o.0 (m + l.lead) es (m + length l.taken) [] (ap (λ z. trailer_at (token_at m z)) (sym o.1) ∙ h) in
    let t = l.ends in
    let n = ap length l.parts ∙ length-append l.taken rest in
    record {
      own = l.taken;
      is = subst (λ (z : ℕ). DictionaryAt z es l.taken) (sym b) (record { inside = o.0; opens = o.1; spelled = objects_are_spelled.sound m l.taken (dict es) (m + length l.taken) [] (omega arith) g });
      parts = l.parts;
      starts = b;
      to = omega arith;
    }

pub trailer_shape : (p : ℕ) (xs : Bytes) (s : ℕ) (es : Entries) (q : ℕ) (rest : Bytes) → length xs < turns → trailer_at (token_at p xs) ≡ ok (s, es) q rest → TrailerShape p xs s es q rest
trailer_shape p xs s es q rest small e =
    let o = token_opens p xs (trailer_kind (token_at p xs) s es q rest e) in
    let b = skip_gap p xs 60 (60 ∷ o.0) o.1 in
    let m : ℕ = p + length b.gap in
    let f : token_at p xs ≡ token_at (p + length b.gap) (60 ∷ 60 ∷ o.0) = ap (token_at p) b.parts ∙ token_behind b.is p (60 ∷ 60 ∷ o.0) in
    let n = ap length b.parts ∙ length-append b.gap (60 ∷ 60 ∷ o.0) in
    let d = dictionary_shape (p + length b.gap) o.0 s es q rest (omega arith) (ap trailer_at (sym f) ∙ e) in
    record {
      lead = b.gap;
      dictionary = d.own;
      leads = b.is;
      is = d.is;
      parts = b.parts ∙ ap (λ zs. b.gap ++ zs) d.parts;
      starts = d.starts;
      to = d.to;
    }

-- a dictionary is read where it stands
dictionary_taken : (m : ℕ) (es : Entries) (d ys : Bytes) → length d < turns → DictionaryAt m es d → trailer_at (token_at m (d ++ ys)) ≡ ok (m, es) (m + length d) ys
dictionary_taken m es d ys small a =
    let h : trailer_at (token_at m d) ≡ ok (m, es) (m + length d) [] =
    ap (λ z. trailer_at (token_at m z)) a.opens ∙ object_trailer m a.inside es (m + length d) [] (ap (object m) (sym a.opens) ∙ objects_are_spelled.complete m d (dict es) (m + length d) [] small a.spelled) in
    let l = trailer_local m d m es (m + length d) [] h in
    let t : l.taken ≡ d = sym (l.parts ∙ append-nil l.taken) in
    let b = l.starts in
    ap (λ z. trailer_at (token_at m (z ++ ys))) (sym t) ∙ l.again m ys ∙ (λ i. ok (sym b i, es) (m + length (t i)) ys)

pub trailer_taken : (p : ℕ) (lead : Bytes) (m : ℕ) (es : Entries) (d ys : Bytes) → length d < turns → Gap lead → DictionaryAt m es d → m ≡ p + length lead → trailer_at (token_at p (lead ++ (d ++ ys))) ≡ ok (m, es) (m + length d) ys
trailer_taken p lead m es d ys small g a q =
    ap trailer_at (token_behind g p (d ++ ys)) ∙ ap (λ (z : ℕ). trailer_at (token_at z (d ++ ys))) (sym q) ∙ dictionary_taken m es d ys small a
