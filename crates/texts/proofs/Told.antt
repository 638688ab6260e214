-- What is told of a line, as its pieces.
use Rattle.std.proofs.Common.{ℕ, ◌≡◌, List, [], ◌∷◌, ◌++◌, take, map, append_assoc, append-nil, sym, ap, ◌∙◌, ℤ}
use Rattle.base.specs.Text.{text, decimal}
use Rattle.texts.specs.Numbers.{written}
use Rattle.texts.specs.Records.{word_of, name_of}
use Rattle.texts.specs.Complaints.{plain, longest_quoted, quoted, quoted_due, not_in, fault_text, complaint_text, Fault, InLine, OtherWord, NoNumber, OutOfRange, EndMissing}
use Rattle.texts.specs.Pieces.{dots}
use Rattle.texts.specs.Places.{record_named, place_text, EndsWithin, OtherLength, OutOfRange as OutsideRange}
use Rattle.rules.specs.Format.{Slot}

quoted_then : (w more : List ℕ) → quoted w ++ more ≡ text "'" ++ (map plain (take longest_quoted w) ++ (dots w ++ (text "'" ++ more)))
unfolding quoted text
quoted_then w more =
    let front = map plain (take longest_quoted w) in
    ap (λ (l : List ℕ). 39 ∷ l) (append_assoc front (dots w ++ (39 ∷ [])) more ∙ ap (λ (l : List ℕ). front ++ l) (append_assoc (dots w) (39 ∷ []) more))

due_then : (kind : ℕ) (more : List ℕ) → quoted_due kind ++ more ≡ text "'" ++ (word_of kind ++ (text "'" ++ more))
unfolding quoted_due text
due_then kind more = ap (λ (l : List ℕ). 39 ∷ l) (append_assoc (word_of kind) (39 ∷ []) more)

pub other_word :
    (w : List ℕ) (kind : ℕ) {front behind due : List ℕ} → front ≡ take longest_quoted w → behind ≡ dots w → due ≡ word_of kind
    → fault_text (OtherWord w kind) ≡ text "'" ++ (map plain front ++ (behind ++ (text "' is not the word due ('" ++ (due ++ text "')"))))
unfolding fault_text text
other_word w kind f b u =
    rw (f, b, u)
    (quoted_then w (text " is not the word due (" ++ (quoted_due kind ++ text ")"))
    ∙ ap (λ (l : List ℕ). text "'" ++ (map plain (take longest_quoted w) ++ (dots w ++ (text "' is not the word due (" ++ l)))) (due_then kind (text ")")))

pub no_number :
    (w : List ℕ) {front behind : List ℕ} → front ≡ take longest_quoted w → behind ≡ dots w
    → fault_text (NoNumber w) ≡ text "'" ++ (map plain front ++ (behind ++ text "' is not a number"))
unfolding fault_text text
no_number w f b = rw (f, b) (quoted_then w (text " is not a number"))

pub end_missing : (kind : ℕ) {due : List ℕ} → due ≡ word_of kind → fault_text (EndMissing kind) ≡ text "the end is missing ('" ++ (due ++ text "' is due)")
unfolding fault_text text
end_missing kind u = rw u (ap (λ (l : List ℕ). text "the end is missing (" ++ l) (due_then kind (text " is due)")))

pub out_of_range :
    (w : List ℕ) (lo hi : ℤ) → fault_text (OutOfRange w lo hi) ≡ w ++ (text " is not " ++ (written lo ++ (text " to " ++ (written hi ++ []))))
unfolding fault_text not_in
out_of_range w lo hi = rw (append-nil (written hi))

-- a line's complaint in three
pub in_line : (n : ℕ) (f : Fault) → complaint_text (InLine n f) ≡ (text "line " ++ (decimal n ++ text ": ")) ++ (fault_text f ++ text "\n")
unfolding complaint_text text
in_line n f = ap (λ (l : List ℕ). text "line " ++ l) (sym (append_assoc (decimal n) (text ": ") (fault_text f ++ text "\n")))

-- ---- a place's line

named_then : (p : ℕ) (s : Slot) (more : List ℕ) → record_named p s ++ more ≡ text "record " ++ (decimal p ++ (text " (" ++ (name_of s ++ (text ")" ++ more))))
unfolding text
named_then p s more = simp append_assoc

pub ends_within_told : (p : ℕ) (s : Slot) → place_text (EndsWithin p s) ≡ text "record " ++ (decimal p ++ (text " (" ++ (name_of s ++ text "): the file ends within it\n")))
unfolding place_text text
ends_within_told p s = named_then p s (text ": the file ends within it\n")

pub other_length_told :
    (p : ℕ) (s : Slot) (size due : ℕ)
    → place_text (OtherLength p s size due) ≡ text "record " ++ (decimal p ++ (text " (" ++ (name_of s ++ (text "): " ++ (decimal size ++ (text " bytes stand where " ++ (decimal due ++ text " are due\n")))))))
unfolding place_text text
other_length_told p s size due = named_then p s (text ": " ++ (decimal size ++ (text " bytes stand where " ++ (decimal due ++ text " are due\n"))))

pub outside_told :
    (p : ℕ) (s : Slot) (q : ℕ) (v lo hi : ℤ)
    → place_text (OutsideRange p s q v lo hi)
    ≡ text "record " ++ (decimal p ++ (text " (" ++ (name_of s ++ (text "), number " ++ (decimal q ++ (text ": " ++ (written v ++ (text " is not " ++ (written lo ++ (text " to " ++ (written hi ++ text "\n")))))))))))
unfolding place_text not_in text
outside_told p s q v lo hi =
    named_then p s (text ", number " ++ (decimal q ++ (text ": " ++ (written v ++ (not_in lo hi ++ text "\n")))))
    ∙ ap (λ (l : List ℕ). text "record " ++ (decimal p ++ (text " (" ++ (name_of s ++ (text "), number " ++ (decimal q ++ (text ": " ++ (written v ++ (text " is not " ++ l)))))))))
    (append_assoc (written lo) (text " to " ++ written hi) (text "\n"))
