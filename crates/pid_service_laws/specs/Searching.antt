-- What a question for the submissions for a path or of an author is answered with.
use Rattle.std.specs.Prelude.{length}
use Rattle.pid_moderation.specs.SubmissionPages.{ListingPage, Search, submissions_of}
use Rattle.pid_moderation.specs.Views.{Views}
use Rattle.pid_moderation.specs.declared.lists.TheConstants.{PAGE}

-- a page of those that are sought, however far back they are: it looks at all submissions
abbrev pub sought_page : Search → Views → ListingPage
sought_page search v = submissions_of PAGE (length v.submits) search v
