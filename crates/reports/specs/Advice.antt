-- What a refusal means to a person.
use Rattle.std.specs.Prelude.{ℕ, List, codes}
use Rattle.faults.specs.declared.reason.Reason.{Reason}
use Rattle.faults.specs.declared.reason.Reason.TheVariants.{NoHeader, NoTail, BytesEnd, BadToken, TooDeep, IntegerRange, KeyAgain, BadFrame, BadLine, BadTrailer, ChainRule, FileBound, OutsideBody, ShortBuffer, StoreLength, BookShut, OpenAlready, UpdateOpen, NoUpdate, SlipSpent, NoRevision, NotInUse, CannotPut, RootNumber, ChangedAlready, UpdateFull, NoChanges, PastLimits, NoSpace, CutPastEnd}

-- a sentence for each reason
abbrev pub advice_of : Reason → List ℕ
advice_of NoHeader = codes "This is no PDF file of versions 1.0 to 1.7: it has to begin with %PDF-1. and a digit from 0 to 7."
advice_of NoTail = codes "The file has to end with startxref, the place of its last section and %%EOF; it may have been cut short, or something was added behind it."
advice_of BytesEnd = codes "The file breaks off in the middle of something; it may have been cut short, or a place that it names lies too far back."
advice_of BadToken = codes "Something stands here that cannot be read as PDF, or that does not belong here."
advice_of TooDeep = codes "Arrays, dictionaries or the brackets of a text may lie 32 deep in one another at most."
advice_of IntegerRange = codes "Whole numbers go from -2147483648 to 2147483647."
advice_of KeyAgain = codes "A dictionary may have each of its keys once only."
advice_of BadFrame = codes "An object has to be written as its number, its generation, obj, its contents and endobj, and a stream needs its right Length."
advice_of BadLine = codes "The cross-reference section is not written line by line as it should be; cross-reference streams are not read."
advice_of BadTrailer = codes "The trailer needs Size and Root, may have Prev, and must not have Encrypt or XRefStm."
advice_of ChainRule = codes "The revisions do not fit together: a section, an entry of its table, Size, Root or an object contradicts what stands before."
advice_of FileBound = codes "A record has at most 9,999,999 bytes, 64 revisions and object numbers up to 999."
advice_of OutsideBody = codes "A body has to begin and end with the object itself, with nothing before or behind it."
advice_of ShortBuffer = codes "The object is larger than the memory that was set aside for it."
advice_of StoreLength = codes "The file is larger than a record may be: 9,999,999 bytes."
advice_of BookShut = codes "The record has to be opened first."
advice_of OpenAlready = codes "The record is open already."
advice_of UpdateOpen = codes "An update is open: commit it or abandon it first."
advice_of NoUpdate = codes "No update is open: begin one first."
advice_of SlipSpent = codes "This update has been committed or abandoned already."
advice_of NoRevision = codes "Revisions count from 1, the oldest; the list command shows how many there are."
advice_of NotInUse = codes "The revision has no object of this number; the list command shows what each revision added and withdrew."
advice_of CannotPut = codes "Only a number that is in use, one that can be used again, or the next new one can be put."
advice_of RootNumber = codes "The root object holds the document together, so it can be changed but not removed."
advice_of ChangedAlready = codes "An update changes each object once at most."
advice_of UpdateFull = codes "An update has at most 32 changes and 16,384 bytes of bodies."
advice_of NoChanges = codes "An update has to change something before it is committed."
advice_of PastLimits = codes "The update would take the record past 64 revisions, 999 as its highest number, 9,999,999 bytes, or 32,768 bytes of section."
advice_of NoSpace = codes "There is no room left for what is to be added."
advice_of CutPastEnd = codes "Nothing lies there to be cut off."
