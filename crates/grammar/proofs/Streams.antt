-- The reader accepts just those streams that are spelled.
use Rattle.std.proofs.Common.{◌≡◌, ℕ, suc, ◌+◌, ◌<◌, ◌≤◌, true, false, eqb, leb, [], ◌∷◌, ◌++◌, length, take, drop, pos, negsuc, Some, None, codes, Option, sym, refl, ap, ◌∙◌, subst, arith, length-append, take-append-drop, length-take-le, eqb-true, le-leb, leb-true}
use lib.Seq.{drop-append_seam}
use Rattle.format.specs.Bytes.{Bytes, ok, same, is_regular}
use Rattle.format.specs.Frames.{length_of, entries_of, length_here, stream_line, maybe_eol, behind, word_ends, end_stream, stream_data, stream_rest, streamed, body_at}
use Rattle.format.specs.Objects.{Obj, null, boolean, integer, decimal, literal, hexadecimal, named, array, dict, ref, Entries, no_entries, more_entries, is_word, object, value_of}
use Rattle.format.specs.Space.{eol_at, after_cr}
use Rattle.format.specs.Strings.{turns}
use Rattle.format.specs.Tokens.{word, Token, token_at}
use Rattle.locality.specs.Locality.{stops}
use Rattle.locality.proofs.Cases.{cases, cases_o, not_both}
use Rattle.locality.proofs.Local.{never, same_rest, same_value, same_place, then_ok}
use Rattle.locality.proofs.Objects.{same_eq}
use Rattle.locality.proofs.Places.{token_reaches}
use Rattle.locality.proofs.Streams.{behind_parts, word_ends_fact, body_counts}
use Rattle.locality.proofs.Tests.{clash}
use Rattle.grammar.specs.Lexing.{Lexes}
use Rattle.grammar.specs.Reading.{lexeme_of, StreamsAreSpelled}
use Rattle.grammar.specs.Streams.{FirstLine, LastLine, ValueOf, BodyAt}
use Rattle.grammar.specs.Trees.{SpelledAt}
use Rattle.grammar.proofs.Keys.{same_not}
use Rattle.grammar.proofs.References.{is_word_fact, word_is, same_self, good_word}
use Rattle.grammar.proofs.Sequences.{single, one_lexes, lexes_reach, lexes_shorter}
use Rattle.grammar.proofs.Trees.{objects_are_spelled}

-- the value that is looked up
value_found : {k : Bytes} {v : Obj} {es : Entries} → ValueOf k v es → value_of k es ≡ Some v
unfolding value_of
value_found {k} ValueOf.here = rw (same_self k, value_of) refl
value_found {k} (ValueOf.further {j} f h) = rw (same_not k j (λ e. f (sym e)), value_of) (value_found h)

found_value : (k : Bytes) (v : Obj) (es : Entries) → value_of k es ≡ Some v → ValueOf k v es
unfolding value_of
found_value k v no_entries e = clash (cc)
found_value k v (more_entries j jb wb o es) e =
    cases (same k j)
    (λ a.
    let h : Some o ≡ Some v = rw (a, value_of) at e in
    let q : v ≡ o = cc in
    let r : k ≡ j = same_eq k j a in
    subst (λ i. ValueOf k v (more_entries i jb wb o es)) r (subst (λ x. ValueOf k v (more_entries k jb wb x es)) q ValueOf.here))
    (λ a. ValueOf.further (λ r. not_both (same k j) (subst (λ i. same k i ≡ true) r (same_self k)) a) (found_value k v es (rw (a, value_of) at e)))

length_is : (o : Obj) (n : ℕ) → length_of o ≡ Some n → o ≡ integer (pos n)
unfolding length_of
length_is (integer (pos m)) n e = let q : m ≡ n = cc in ap {B = Obj} (λ i. integer (pos i)) q
length_is (integer (negsuc m)) n e = clash (cc)
length_is null n e = clash (cc)
length_is (boolean b) n e = clash (cc)
length_is (decimal w) n e = clash (cc)
length_is (literal w) n e = clash (cc)
length_is (hexadecimal w) n e = clash (cc)
length_is (named d) n e = clash (cc)
length_is (array os) n e = clash (cc)
length_is (dict es) n e = clash (cc)
length_is (ref m g) n e = clash (cc)

read_length : (es : Entries) (n : ℕ) → length_here es ≡ Some n → ValueOf (codes "Length") (integer (pos n)) es
unfolding length_here
read_length es n e =
    cases_o (value_of (codes "Length") es)
    (λ a. clash (let z : None ≡ Some n = rw (a, length_here) at e in cc))
    (λ o a. found_value (codes "Length") (integer (pos n)) es (a ∙ ap Some (length_is o n (rw (a, length_here) at e))))

length_read : (es : Entries) (n : ℕ) → ValueOf (codes "Length") (integer (pos n)) es → length_here es ≡ Some n
unfolding length_here length_of
length_read es n v = rw (value_found v, length_here) refl

-- the end of line behind `stream`
line_read : {l : Bytes} → FirstLine l → (p : ℕ) (ys : Bytes) → stream_line p (l ++ ys) ≡ ok tt (p + length l) ys
unfolding stream_line
line_read FirstLine.lf p ys = let q : suc p ≡ p + 1 = omega arith in λ i. ok tt (q i) ys
line_read FirstLine.crlf p ys = let q : suc (suc p) ≡ p + 2 = omega arith in λ i. ok tt (q i) ys

record Lined (xs rest : Bytes) : Type 0 where
  line : Bytes
  is : FirstLine line
  parts : xs ≡ line ++ rest

read_line : (p : ℕ) (xs : Bytes) (u : Unit) (q : ℕ) (rest : Bytes) → stream_line p xs ≡ ok u q rest → Lined xs rest
unfolding stream_line
read_line p [] u q rest e = never e
read_line p (x ∷ xs) u q rest e =
    cases (eqb x 10)
    (λ a. let r : xs ≡ rest = same_rest (rw (a, stream_line) at e) in let s : x ≡ 10 = eqb-true x 10 a in record { line = 10 ∷ []; is = FirstLine.lf; parts = λ i. s i ∷ r i })
    (λ a. cases (eqb x 13) (λ b. cr xs a b e) (λ b. never (rw (a, b, stream_line) at e)))
  where
    cr : (zs : Bytes) → eqb x 10 ≡ false → eqb x 13 ≡ true → stream_line p (x ∷ zs) ≡ ok u q rest → Lined (x ∷ zs) rest
    cr [] a b h = never (rw (a, b, stream_line) at h)
    cr (y ∷ zs) a b h =
        cases (eqb y 10)
        (λ c.
        let r : zs ≡ rest = same_rest (rw (a, b, c, stream_line) at h) in
        let s : x ≡ 13 = eqb-true x 13 b in
        let t : y ≡ 10 = eqb-true y 10 c in
        record { line = 13 ∷ 10 ∷ []; is = FirstLine.crlf; parts = λ i. s i ∷ t i ∷ r i })
        (λ c. never (rw (a, b, c, stream_line) at h))

-- the optional end of line before `endstream`
last_read : {l : Bytes} → LastLine l → (p : ℕ) (ys : Bytes) → maybe_eol p (l ++ (codes "endstream" ++ ys)) (eol_at p (l ++ (codes "endstream" ++ ys))) ≡ (p + length l, codes "endstream" ++ ys)
unfolding maybe_eol eol_at after_cr
last_read LastLine.none p ys = let q : p ≡ p + 0 = omega arith in λ i. (q i, codes "endstream" ++ ys)
last_read LastLine.lf p ys = let q : suc p ≡ p + 1 = omega arith in λ i. (q i, codes "endstream" ++ ys)
last_read LastLine.cr p ys = let q : suc p ≡ p + 1 = omega arith in λ i. (q i, codes "endstream" ++ ys)
last_read LastLine.crlf p ys = let q : suc (suc p) ≡ p + 2 = omega arith in λ i. (q i, codes "endstream" ++ ys)

record Broken (xs rest : Bytes) : Type 0 where
  line : Bytes
  is : LastLine line
  parts : xs ≡ line ++ rest

read_last : (p : ℕ) (xs : Bytes) → Broken xs (maybe_eol p xs (eol_at p xs)).1
unfolding maybe_eol eol_at after_cr
read_last p [] = record { line = []; is = LastLine.none; parts = refl }
read_last p (x ∷ xs) =
    cases (eqb x 10)
    (λ a. rw (a, eol_at) (record { line = 10 ∷ []; is = LastLine.lf; parts = ap {B = Bytes} (λ c. c ∷ xs) (eqb-true x 10 a) }))
    (λ a.
    cases (eqb x 13)
    (λ b. cr xs a b)
    (λ b. rw (a, b, eol_at) (record { line = []; is = LastLine.none; parts = refl })))
  where
    cr : (zs : Bytes) → eqb x 10 ≡ false → eqb x 13 ≡ true → Broken (x ∷ zs) (maybe_eol p (x ∷ zs) (eol_at p (x ∷ zs))).1
    cr [] a b = rw (a, b, eol_at) (record { line = 13 ∷ []; is = LastLine.cr; parts = ap {B = Bytes} (λ c. c ∷ []) (eqb-true x 13 b) })
    cr (y ∷ zs) a b =
        cases (eqb y 10)
        (λ c. let s : x ≡ 13 = eqb-true x 13 b in let t : y ≡ 10 = eqb-true y 10 c in rw (a, b, c, eol_at, after_cr) (record { line = 13 ∷ 10 ∷ []; is = LastLine.crlf; parts = λ i. s i ∷ t i ∷ zs }))
        (λ c. rw (a, b, c, eol_at, after_cr) (record { line = 13 ∷ []; is = LastLine.cr; parts = ap {B = Bytes} (λ d. d ∷ y ∷ zs) (eqb-true x 13 b) }))

-- `endstream` as a whole word
end_read : (p : ℕ) (ys : Bytes) → stops is_regular ys ≡ true → end_stream p (codes "endstream" ++ ys) ≡ ok tt (p + 9) ys
unfolding end_stream behind
end_read p ys h = rw (word_ends_fact ys ∙ h, end_stream) refl

read_end : (p : ℕ) (xs : Bytes) (u : Unit) (q : ℕ) (rest : Bytes) → end_stream p xs ≡ ok u q rest → (xs ≡ codes "endstream" ++ rest) × (stops is_regular rest ≡ true)
unfolding end_stream
read_end p xs u q rest e =
    cases_o (behind (codes "endstream") xs)
    (λ a. never (rw (a, end_stream) at e))
    (λ ys a.
    cases (word_ends ys)
    (λ b.
    let r : ys ≡ rest = same_rest (rw (a, b, end_stream) at e) in
    (behind_parts (codes "endstream") xs ys a ∙ ap (λ zs. codes "endstream" ++ zs) r, ap (stops is_regular) (sym r) ∙ sym (word_ends_fact ys) ∙ b))
    (λ b. never (rw (a, b, end_stream) at e)))

-- the data, up to `endstream`
data_read : (p : ℕ) (c l ys : Bytes) → LastLine l → stops is_regular ys ≡ true → stream_data (length c) p (c ++ (l ++ (codes "endstream" ++ ys))) ≡ ok tt (p + length c + length l + 9) ys
unfolding stream_data
data_read p c l ys b w =
    let n : length (c ++ (l ++ (codes "endstream" ++ ys))) ≡ length c + length (l ++ (codes "endstream" ++ ys)) = length-append c (l ++ (codes "endstream" ++ ys)) in
    rw (le-leb (length c) (length (c ++ (l ++ (codes "endstream" ++ ys)))) (omega arith), stream_data)
    (rw (drop-append_seam c (l ++ (codes "endstream" ++ ys))) (rw (last_read b (p + length c) ys) (end_read (p + length c + length l) ys w)))

record Filled (n : ℕ) (xs rest : Bytes) : Type 0 where
  content : Bytes
  last : Bytes
  size : length content ≡ n
  final : LastLine last
  whole : stops is_regular rest ≡ true
  parts : xs ≡ content ++ (last ++ (codes "endstream" ++ rest))

read_data : (n p : ℕ) (xs : Bytes) (u : Unit) (q : ℕ) (rest : Bytes) → stream_data n p xs ≡ ok u q rest → Filled n xs rest
unfolding stream_data
read_data n p xs u q rest e =
    cases (leb n (length xs))
    (λ a. made (leb-true n (length xs) a) (read_last (p + n) (drop n xs)) (read_end m.0 m.1 u q rest (rw (a, stream_data) at e)))
    (λ a. never (rw (a, stream_data) at e))
  where
    m : ℕ × Bytes
    m = maybe_eol (p + n) (drop n xs) (eol_at (p + n) (drop n xs))

    made : n ≤ length xs → Broken (drop n xs) m.1 → (m.1 ≡ codes "endstream" ++ rest) × (stops is_regular rest ≡ true) → Filled n xs rest
    made h b r = record {
      content = take n xs;
      last = b.line;
      size = length-take-le n xs h;
      final = b.is;
      whole = r.1;
      parts = sym (take-append-drop n xs) ∙ ap (λ zs. take n xs ++ zs) (b.parts ∙ ap (λ zs. b.line ++ zs) r.0);
    }

-- a dictionary
dict_of : (o : Obj) (es : Entries) → entries_of o ≡ Some es → o ≡ dict es
unfolding entries_of
dict_of (dict es) fs e = ap dict (cc)
dict_of null es e = clash (cc)
dict_of (boolean b) es e = clash (cc)
dict_of (integer z) es e = clash (cc)
dict_of (decimal w) es e = clash (cc)
dict_of (literal w) es e = clash (cc)
dict_of (hexadecimal w) es e = clash (cc)
dict_of (named d) es e = clash (cc)
dict_of (array os) es e = clash (cc)
dict_of (ref n g) es e = clash (cc)

of_dict : (o : Obj) (es : Entries) → o ≡ dict es → entries_of o ≡ Some es
unfolding entries_of
of_dict o es e = rw e refl

-- the rest of a stream, behind its word
rest_read : (es : Entries) (t : Token) (l c e ys : Bytes) → FirstLine l → LastLine e → stops is_regular ys ≡ true → ValueOf (codes "Length") (integer (pos (length c))) es →
    t.rest ≡ l ++ (c ++ (e ++ (codes "endstream" ++ ys))) → stream_rest es t ≡ ok tt (t.to + length l + length c + length e + 9) ys
unfolding stream_rest
rest_read es t l c e ys a b w v p =
    rw (length_read es (length c) v, stream_rest)
    (rw p (rw (line_read a t.to (c ++ (e ++ (codes "endstream" ++ ys)))) (data_read (t.to + length l) c e ys b w)))

record Rested (es : Entries) (t : Token) (rest : Bytes) : Type 0 where
  line : Bytes
  content : Bytes
  last : Bytes
  first : FirstLine line
  final : LastLine last
  whole : stops is_regular rest ≡ true
  sized : ValueOf (codes "Length") (integer (pos (length content))) es
  parts : t.rest ≡ line ++ (content ++ (last ++ (codes "endstream" ++ rest)))

read_rest : (es : Entries) (t : Token) (u : Unit) (q : ℕ) (rest : Bytes) → stream_rest es t ≡ ok u q rest → Rested es t rest
unfolding stream_rest
read_rest es t u q rest e =
    cases_o (length_here es)
    (λ a. never (rw (a, stream_rest) at e))
    (λ n a.
    let v = then_ok (stream_line t.to t.rest) (λ _ p xs. stream_data n p xs) u q rest (rw (a, stream_rest) at e) in
    made n (read_length es n a) v.2 (read_line t.to t.rest v.0 v.1 v.2 v.3) (read_data n v.1 v.2 u q rest v.4))
  where
    made : (n : ℕ) → ValueOf (codes "Length") (integer (pos n)) es → (ys : Bytes) → Lined t.rest ys → Filled n ys rest → Rested es t rest
    made n v ys l f = record {
      line = l.line;
      content = f.content;
      last = f.last;
      first = l.is;
      final = f.final;
      whole = f.whole;
      sized = subst (λ m. ValueOf (codes "Length") (integer (pos m)) es) (sym f.size) v;
      parts = l.parts ∙ ap (λ zs. l.line ++ zs) f.parts;
    }

-- an answer about a dictionary
streamed_on : (o : Obj) (q : ℕ) (ys : Bytes) (es : Entries) (t : Token) (r : ℕ) (zs : Bytes) → is_word (codes "stream") t.kind ≡ true → stream_rest es t ≡ ok tt r zs → streamed o q ys (Some es) t ≡ ok o r zs
unfolding streamed
streamed_on o q ys es t r zs a b = rw (a, streamed) (rw b refl)

streamed_off : (o : Obj) (q : ℕ) (ys : Bytes) (m : Option Entries) (t : Token) → ((es : Entries) → m ≡ Some es → is_word (codes "stream") t.kind ≡ false) → streamed o q ys m t ≡ ok o q ys
unfolding streamed
streamed_off o q ys None t f = refl
streamed_off o q ys (Some es) t f = rw (f es refl, streamed) refl

body_of : (p : ℕ) (xs : Bytes) (o : Obj) (q : ℕ) (ys : Bytes) → object p xs ≡ ok o q ys → body_at p xs ≡ streamed o q ys (entries_of o) (token_at q ys)
unfolding body_at
body_of p xs o q ys e = rw e refl

complete_at : (p : ℕ) (xs : Bytes) (o : Obj) (q : ℕ) (rest : Bytes) → length xs < turns → BodyAt p xs o q rest → body_at p xs ≡ ok o q rest
complete_at p xs o q rest h (BodyAt.direct s f) =
    body_of p xs o q rest (objects_are_spelled.complete p xs o q rest h s) ∙ streamed_off o q rest (entries_of o) (token_at q rest)
    (λ es e. cases (is_word (codes "stream") (token_at q rest).kind) (λ a.
    let k = is_word_fact (codes "stream") (token_at q rest).kind a in
    absurd (f es (lexeme_of q rest (token_at q rest)) (token_at q rest).to (token_at q rest).rest (dict_of o es e) (one_lexes q rest (good_word (token_at q rest).kind (codes "stream") k)) k)) (λ a. a))
complete_at p xs o q rest h (BodyAt.stream {es} {r} {ys} e s t) =
    let b : length ys < turns = (let m = lexes_shorter s.own in omega arith) in
    let k = single t.begins b in
    let w : is_word (codes "stream") (token_at r ys).kind ≡ true = word_is (codes "stream") (token_at r ys).kind (k.kind ∙ t.is) in
    let g : (token_at r ys).rest ≡ t.line ++ (t.content ++ (t.last ++ (codes "endstream" ++ rest))) = k.left ∙ t.parts in
    let n : length t.bytes ≡ length t.line + (length t.content + (length t.last + (9 + length rest))) = ap length t.parts ∙ simp length-append refl in
    let i = t.ends in
    let j = k.to in
    let at : (token_at r ys).to + length t.line + length t.content + length t.last + 9 ≡ q = omega arith in
    body_of p xs o r ys (objects_are_spelled.complete p xs o r ys h s)
    ∙ ap (λ m. streamed o r ys m (token_at r ys)) (of_dict o es e)
    ∙ streamed_on o r ys es (token_at r ys) q rest w (rest_read es (token_at r ys) t.line t.content t.last rest t.first t.final t.whole t.sized g ∙ (λ z. ok tt (at z) rest))

-- what is read as an object with nothing behind it, or as a stream
read_streamed : (p : ℕ) (xs : Bytes) (o : Obj) (q : ℕ) (ys : Bytes) (o' : Obj) (q' : ℕ) (rest : Bytes) → length xs < turns → SpelledAt p xs o q ys → (m : Option Entries) → entries_of o ≡ m →
    q' + length rest ≡ q + length ys → streamed o q ys m (token_at q ys) ≡ ok o' q' rest → BodyAt p xs o' q' rest
unfolding streamed
read_streamed p xs o q ys o' q' rest h s None e c f =
    body_at_fact f (BodyAt.direct s (λ es t r zs d l k. clash (let z : None ≡ Some es = sym e ∙ of_dict o es d in cc)))
  where
    body_at_fact : ok o q ys ≡ ok o' q' rest → BodyAt p xs o q ys → BodyAt p xs o' q' rest
    body_at_fact g b = subst (λ z. BodyAt p xs o' q' z) (same_rest g) (subst (λ z. BodyAt p xs o' z ys) (same_place g) (subst (λ z. BodyAt p xs z q ys) (same_value g) b))
read_streamed p xs o q ys o' q' rest h s (Some es) e c f =
    let b : length ys < turns = (let m = lexes_shorter s.own in omega arith) in
    cases (is_word (codes "stream") (token_at q ys).kind)
    (λ a.
    let u = then_ok (stream_rest es (token_at q ys)) (λ _ r zs. ok o r zs) o' q' rest (rw (a, streamed) at f) in
    let k = is_word_fact (codes "stream") (token_at q ys).kind a in
    let g = good_word (token_at q ys).kind (codes "stream") k in
    subst (λ z. BodyAt p xs z q' rest) (same_value u.4)
    (on k (one_lexes q ys g) (token_reaches q ys g) (subst (λ z. Rested es (token_at q ys) z) (same_rest u.4) (read_rest es (token_at q ys) u.0 u.1 u.2 u.3))))
    (λ a.
    off (rw (a, streamed) at f)
    (BodyAt.direct s (λ fs t r zs d l k. let w = single l b in not_both (is_word (codes "stream") (token_at q ys).kind) (word_is (codes "stream") (token_at q ys).kind (w.kind ∙ k)) a)))
  where
    off : ok o q ys ≡ ok o' q' rest → BodyAt p xs o q ys → BodyAt p xs o' q' rest
    off g b = subst (λ z. BodyAt p xs o' q' z) (same_rest g) (subst (λ z. BodyAt p xs o' z ys) (same_place g) (subst (λ z. BodyAt p xs z q ys) (same_value g) b))

    on : (token_at q ys).kind ≡ word (codes "stream") → Lexes q ys (lexeme_of q ys (token_at q ys) ∷ []) (token_at q ys).to (token_at q ys).rest →
        (token_at q ys).to + length (token_at q ys).rest ≡ q + length ys → Rested es (token_at q ys) rest → BodyAt p xs o q' rest
    on k l n r = BodyAt.stream (dict_of o es e) s (record {
      keyword = lexeme_of q ys (token_at q ys);
      place = (token_at q ys).to;
      bytes = (token_at q ys).rest;
      begins = l;
      is = k;
      line = r.line;
      content = r.content;
      last = r.last;
      parts = r.parts;
      first = r.first;
      final = r.final;
      whole = r.whole;
      ends = c ∙ sym n;
      sized = r.sized;
    })

sound_at : (p : ℕ) (xs : Bytes) (o : Obj) (q : ℕ) (rest : Bytes) → length xs < turns → body_at p xs ≡ ok o q rest → BodyAt p xs o q rest
unfolding body_at
sound_at p xs o q rest h e =
    let u = then_ok (object p xs) (λ v r ys. streamed v r ys (entries_of v) (token_at r ys)) o q rest e in
    let s = objects_are_spelled.sound p xs u.0 u.1 u.2 h u.3 in
    let c : q + length rest ≡ p + length xs = body_counts p xs o q rest e in
    read_streamed p xs u.0 u.1 u.2 o q rest h s (entries_of u.0) refl (c ∙ sym (reach s)) u.4
  where
    reach : {v : Obj} {r : ℕ} {ys : Bytes} → SpelledAt p xs v r ys → r + length ys ≡ p + length xs
    reach s = lexes_reach s.own

pub streams_are_spelled : StreamsAreSpelled
streams_are_spelled = record { sound = sound_at; complete = complete_at }
