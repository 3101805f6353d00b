-- Pages of the remarks on a submission, each remark with its place: a choice of this project.
use Rattle.std.specs.Prelude.{ℕ, ◌+◌, List, [], ◌∷◌, length, map, take, drop, Option, option_map}
use Rattle.pid_moderation.specs.Submissions.{Standing, remark_of, standing_in, standing_of}
use Rattle.pid_moderation.specs.Views.{Remark, Views}
use Rattle.pid_moderation.specs.declared.lists.PlacedRemark.{PlacedRemark}
use Rattle.pid_moderation.specs.declared.lists.RemarkPage.{RemarkPage}

-- remarks with their places, which count on from this one
abbrev pub remarks_from : ℕ → List Remark → List (ℕ × Remark)
remarks_from place [] = []
remarks_from place (remark ∷ remarks) = (place, remark) ∷ remarks_from (place + 1) remarks

-- those after so many, in their order; the first has the place 1
abbrev pub placed_after : ℕ → List Remark → List (ℕ × Remark)
placed_after after remarks = remarks_from (after + 1) (drop after remarks)

-- a submission as it stands, with its number, the count of the remarks on it, and some of them
pub record DiscussionPage : Type 0 where
  pub number : ℕ
  pub standing : Standing
  pub count : ℕ
  pub remarks : List (ℕ × Remark)

-- the submission with a number, and the remarks after so many, at most as many as a page has
abbrev pub remark_page_in : (most number after : ℕ) → Views → Option DiscussionPage
remark_page_in most number after v = option_map (λ standing. record {
  number = number;
  standing = standing;
  count = length (v.remarks number);
  remarks = take most (placed_after after (v.remarks number));
}) (standing_in v number)

-- the values of the code that stand for these
abbrev pub placed_of : PlacedRemark → ℕ × Remark
placed_of placed = (placed.place, remark_of placed.remark)

abbrev pub remark_page_of : RemarkPage → DiscussionPage
remark_page_of page = record {
  number = page.number;
  standing = standing_of page.submission;
  count = page.count;
  remarks = map placed_of page.remarks.items;
}
