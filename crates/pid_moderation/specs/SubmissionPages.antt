-- Pages of the submissions for a path or of an author, the latest first: a choice of this project.
use Rattle.std.specs.Prelude.{ℕ, Bool, true, ◌&&◌, ◌||◌, ◌==◌, nat_lt, nat_le, if◌then◌else◌, List}
use Rattle.std.specs.Prelude.{[], ◌∷◌, length, map, reverse, filter, take, Option, Some, None}
use Rattle.std.specs.Prelude.{option_map}
use Rattle.std.specs.Str.{bytes_eq}
use Rattle.pid_file.specs.PathTexts.{path_text}
use Rattle.pid_file.specs.declared.path.Path.{Path}
use Rattle.pid_moderation.specs.Views.{Views}
use Rattle.pid_moderation.specs.Submissions.{Standing, standing_of}
use Rattle.pid_moderation.specs.PendingPages.{standings_from}
use Rattle.pid_moderation.specs.declared.lists.Listed.{Listed}
use Rattle.pid_moderation.specs.declared.lists.SubmissionPage.{SubmissionPage}

-- what is asked: the submissions for a path, if one is named, and of an author, if one is named,
-- whose numbers are below a number, of which 0 stands for no bound
pub record Search : Type 0 where
  pub path : Option Path
  pub author : Option (List ℕ)
  pub before : ℕ

-- a submission as it stands, with its number and the count of the remarks on it
pub record Listing : Type 0 where
  pub number : ℕ
  pub standing : Standing
  pub remarks : ℕ

-- some of them, and the number below which the next page begins: 0 where no page is left
pub record ListingPage : Type 0 where
  pub before : ℕ
  pub submissions : List Listing

-- a submission as it stands, in the views
abbrev pub listing_in : Views → ℕ × Standing → Listing
listing_in v s = record { number = s.0; standing = s.1; remarks = length (v.remarks s.0) }

-- every submission, the latest first
abbrev pub all_listings : Views → List Listing
all_listings v = reverse (map (listing_in v) (standings_from 1 v.submits v.state))

-- numbered below this one, where 0 stands for no bound
abbrev pub is_before : ℕ → Listing → Bool
is_before before l = before == 0 || nat_lt l.number before

-- a text is the one that is wanted, if one is
abbrev pub is_wanted : Option (List ℕ) → List ℕ → Bool
is_wanted None text = true
is_wanted (Some wanted) text = bytes_eq text wanted

-- it is for the path, and of the author
abbrev pub is_sought : Search → Listing → Bool
is_sought search l =
    is_wanted (option_map path_text search.path) (path_text l.standing.submitted.path)
    && is_wanted search.author l.standing.submitted.author

-- all that are below the bound, and those of them that are sought
abbrev pub listings_before : ℕ → Views → List Listing
listings_before before v = filter (is_before before) (all_listings v)

abbrev pub sought_in : Search → Views → List Listing
sought_in search v = filter (is_sought search) (listings_before search.before v)

-- the number of the last one, or else this one
abbrev pub last_number : ℕ → List Listing → ℕ
last_number number [] = number
last_number number (l ∷ rest) = last_number l.number rest

-- no submission has a number below 1
abbrev pub unless_first : ℕ → ℕ
unless_first number = if nat_le number 1 then 0 else number

-- a page that is full is followed by what is below the last one listed, and any other by what is
-- below the last one looked at
abbrev pub next_before : ℕ → (looked_at listed : List Listing) → ℕ
next_before most looked_at listed = unless_first
    (last_number 0 (if length listed == most then listed else looked_at))

-- of those that were looked at, the first that are sought, at most so many
abbrev pub first_sought : ℕ → Search → List Listing → List Listing
first_sought most search looked_at = take most (filter (is_sought search) looked_at)

-- the page that comes of those that were looked at
abbrev pub page_among : ℕ → Search → List Listing → ListingPage
page_among most search looked_at = record {
  before = next_before most looked_at (first_sought most search looked_at);
  submissions = first_sought most search looked_at;
}

-- the first of those that are below the bound, at most so many
abbrev pub searched_in : ℕ → Search → Views → List Listing
searched_in searched search v = take searched (listings_before search.before v)

-- a page looks at these
abbrev pub submissions_of : (most searched : ℕ) → Search → Views → ListingPage
submissions_of most searched search v = page_among most search (searched_in searched search v)

-- the submission of a value of the code
abbrev pub listed_of : Listed → Listing
listed_of listed = record {
  number = listed.number;
  standing = standing_of listed.submission;
  remarks = listed.remarks;
}

-- the page of a value of the code
abbrev pub submission_page_of : SubmissionPage → ListingPage
submission_page_of page = record {
  before = page.before;
  submissions = map listed_of page.submissions.items;
}
